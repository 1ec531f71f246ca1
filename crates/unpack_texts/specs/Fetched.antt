-- The texts of stanzas that are fetched in a second reading of an index (that a change is refused is this project's own).
use Rattle.std.specs.Prelude.{◌≡◌, ℕ, ◌+◌, true, List, [], ◌∷◌, ◌++◌, length, map, Some, Result, Ok, is_some, IfSome, ◌<◌}
use Rattle.std.specs.List.{AllZip, Any}
use Rattle.index.specs.Alone.{alone}
use Rattle.rules.specs.FileRecord.{IndexStanza}
use Rattle.rules.specs.Step.{IndexPackage}
use Rattle.rules.specs.declared.limits.TheConstants.{TEXT_BYTES}
use Rattle.stanza.specs.declared.form.Form.TheVariants.{Plain}
use Rattle.stanza.specs.Reading.{Reading, to_read}
use Rattle.stanza.specs.Stanza.{StanzaText}
use Rattle.stanza.specs.Streamed.{read_within}
use Rattle.stanza.specs.declared.error.ReaderError.{ReaderError}
use Rattle.stanza.specs.declared.error.ReaderError.TheVariants as read
use Rattle.unpack_texts.specs.declared.error.FetchError.{FetchError}
use Rattle.unpack_texts.specs.declared.error.FetchError.TheVariants as error

-- what is read of a text: its stanzas, and a refusal behind them
abbrev pub Items : Type 0
Items = List (Result StanzaText ReaderError)

-- what is read of the text of an index
abbrev pub items_in : List ℕ → Items
items_in text = read_within Plain 1 TEXT_BYTES text

-- the stanza has this number among what is read, counted from 1
pub record IsStanzaAt (items : Items) (number : ℕ) (stanza : StanzaText) : Type 0 where
  pub before : List StanzaText
  pub later : Items
  pub is : items ≡ map Ok before ++ Ok stanza ∷ later
  pub count : length before + 1 ≡ number

-- the text alone is a stanza of the same package as this one, and is marked essential where it is
pub record IsSamePackage (arch text : List ℕ) (wanted : IndexPackage) : Type 0 where
  pub indexed : IndexStanza
  pub read : alone arch text ≡ Some indexed
  pub pkg : indexed.listed.pkg ≡ wanted.pkg
  pub essential : indexed.listed.is_essential ≡ wanted.is_essential

-- the text is that of the stanza at the place of the wanted package, and the package is the same
pub record IsFetched (arch : List ℕ) (items : Items) (wanted : IndexPackage) (text : List ℕ) : Type 0 where
  pub stanza : StanzaText
  pub there : IsStanzaAt items wanted.place.stanza stanza
  pub raw : stanza.raw ≡ text
  pub same : IsSamePackage arch text wanted

-- each text is that of the wanted package in its place
abbrev pub AreFetched : List ℕ → Items → List IndexPackage → List (List ℕ) → Type 0
AreFetched arch items wanted texts = AllZip (IsFetched arch items) wanted texts

-- no text is fetched for the package: its stanza isn't there any more, or is of another package
abbrev pub IsGone : List ℕ → Items → IndexPackage → Type 0
IsGone arch items wanted = (text : List ℕ) → ¬ IsFetched arch items wanted text

-- no text is fetched for one of the packages
abbrev pub IsChanged : List ℕ → Items → List IndexPackage → Type 0
IsChanged arch items wanted = Any (IsGone arch items) wanted

-- why nothing was fetched of a text that wasn't read
abbrev pub fetch_error_of : ReaderError → FetchError
fetch_error_of (read.Refused fault) = error.Changed
fetch_error_of read.TooLarge = error.Changed
fetch_error_of read.Read = error.Read
fetch_error_of read.OutOfMemory = error.OutOfMemory

-- the stanza is the last of these
abbrev pub EndsWith : List StanzaText → StanzaText → Type 0
EndsWith stanzas stanza = (front : List StanzaText) × (stanzas ≡ front ++ stanza ∷ [])

-- so many stanzas were read, of which the last was reached, and the other items are still to be read
pub record HasRead (items : Items) (number : ℕ) (reading : Reading) (left : List ℕ) : Type 0 where
  pub before : List StanzaText
  pub is : items ≡ map Ok before ++ to_read reading left
  pub count : length before ≡ number
  pub last : IfSome reading.stanza (EndsWith before)
  pub some : 0 < number → is_some reading.stanza ≡ true
