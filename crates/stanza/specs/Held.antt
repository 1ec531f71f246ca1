-- Bytes that were read and wait to be cut into stanzas.
use Rattle.std.specs.Prelude.{◌≡◌, ℕ, ◌+◌, ◌-◌, ◌<◌, ◌≤◌, ◌^◌, Bool, true, false, List, [], ◌∷◌, ◌++◌, length, take, drop, Option, None, Some, Result, Ok, Err}
use Rattle.stanza.specs.declared.form.Form.{Form}
use Rattle.stanza.specs.declared.error.ReaderError.{ReaderError}
use Rattle.stanza.specs.declared.error.ReaderError.TheVariants.{Refused, TooLarge}
use Rattle.stanza.specs.declared.error.StanzaError.{StanzaError}
use Rattle.stanza.specs.declared.held.Cut.{Cut}
use Rattle.stanza.specs.declared.held.Cut.TheVariants as cut
use Rattle.stanza.specs.declared.held.Held.{Held}
use Rattle.stanza.specs.declared.held.StanzaPlace.{StanzaPlace}
use Rattle.stanza.specs.declared.starts.FieldStart.{FieldStart}
use Rattle.stanza.specs.Line.{lines_of}
use Rattle.stanza.specs.Stanza.{StanzaText, stanza_of}
use Rattle.stanza.specs.Starts.{starts_of}
use Rattle.stanza.specs.Streamed.{MayFollow, read_within}

-- the bytes that were read
abbrev pub filled_of : Held → List ℕ
filled_of held = take held.end held.bytes.items

-- those that aren't answered yet
abbrev pub pending_of : Held → List ℕ
pending_of held = drop held.begin (filled_of held)

-- there are bytes up to the end of those that were read, of which some may be answered, and lines can be counted
pub record IsHeld (held : Held) : Type 0 where
  pub filled : held.end ≤ length held.bytes.items
  pub within : held.begin ≤ held.end
  pub fits : held.before + (held.end - held.begin) + held.room < 2 ^ 64

-- how many bytes there may still be
abbrev pub total_of : Held → ℕ
total_of held = length (pending_of held) + held.room

-- what is still to be answered, where these bytes are left in the source
abbrev pub read_of : Form → Held → List ℕ → List (Result StanzaText ReaderError)
read_of form held left = read_within form (held.before + 1) (length (pending_of held) + held.room) (pending_of held ++ left)

-- the bytes of a stanza
abbrev pub raw_at : List ℕ → StanzaPlace → List ℕ
raw_at bytes place = take place.len (drop place.from bytes)

-- the stanza that stands there
abbrev pub stanza_at : Form → List ℕ → StanzaPlace → StanzaText
stanza_at form bytes place = stanza_of form place.line (lines_of (raw_at bytes place))

-- a stanza stands there, whose fields begin so
pub record IsPlaced (form : Form) (bytes : List ℕ) (place : StanzaPlace) (starts : List FieldStart) : Type 0 where
  pub some : 0 < length (raw_at bytes place)
  pub starts_are : starts ≡ starts_of form 0 place.line (lines_of (raw_at bytes place))

-- of the text that is held and left in a source some more is held, and nothing is lost
pub record FillsWith (old new : Held) (left more : List ℕ) : Type 0 where
  pub text : pending_of old ++ left ≡ pending_of new ++ more
  pub most : length (pending_of old) + old.room ≡ length (pending_of new) + new.room
  pub before : old.before ≡ new.before

-- what is still to be answered begins with a stanza that stands there, and goes on with what the new ones have
pub record GivesStanza (is_over : Bool) (form : Form) (old new : Held) (starts : List FieldStart) (place : StanzaPlace) : Type 0 where
  pub placed : IsPlaced form (filled_of new) place starts
  pub less : total_of new < total_of old
  pub read : (left : List ℕ) → MayFollow is_over left → read_of form old left ≡ Ok (stanza_at form (filled_of new) place) ∷ read_of form new left

-- nothing is still to be answered
pub record GivesNothing (is_over : Bool) (form : Form) (old new : Held) : Type 0 where
  pub over : is_over ≡ true
  pub read : (left : List ℕ) → MayFollow is_over left → read_of form old left ≡ []
  pub none : (left : List ℕ) → MayFollow is_over left → read_of form new left ≡ []

-- more is needed: where no more may be read, the text is too large
pub record NeedsMore (is_over : Bool) (form : Form) (old new : Held) : Type 0 where
  pub more : is_over ≡ false
  pub read : (left : List ℕ) → read_of form old left ≡ read_of form new left
  pub large : (left : List ℕ) → 0 < length left → new.room ≡ 0 → read_of form new left ≡ Err TooLarge ∷ []

-- what was found in the bytes that are held
abbrev pub IsCut : Bool → Form → Held → Held → List FieldStart → Cut → Type 0
IsCut is_over form old new starts (cut.Stanza place) = GivesStanza is_over form old new starts place
IsCut is_over form old new starts cut.Nothing = GivesNothing is_over form old new
IsCut is_over form old new starts cut.More = NeedsMore is_over form old new

-- what is still to be answered is this fault
abbrev pub IsRefused : Bool → Form → Held → StanzaError → Type 0
IsRefused is_over form held fault = (left : List ℕ) → MayFollow is_over left → read_of form held left ≡ Err (Refused fault) ∷ []

-- what was found of the text that is held and left: a stanza, or that nothing comes
abbrev pub Finds : Form → Held → Held → List ℕ → List ℕ → Option StanzaPlace → Type 0
Finds form old new left more None = (read_of form old left ≡ []) × (read_of form new more ≡ [])
Finds form old new left more (Some place) = read_of form old left ≡ Ok (stanza_at form (filled_of new) place) ∷ read_of form new more
