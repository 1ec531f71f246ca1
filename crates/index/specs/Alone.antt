-- A text that is one stanza, as the stanza of an index (Debian Policy 5.1 and 5.3): it is read as the first index.
use Rattle.std.specs.Prelude.{ℕ, List, [], ◌∷◌, Option, None, Result, Ok, Err}
use Rattle.rules.specs.FileRecord.{IndexStanza}
use Rattle.stanza.specs.declared.form.Form.TheVariants.{Plain}
use Rattle.stanza.specs.Stanza.{StanzaText, items_of}
use Rattle.stanza.specs.declared.error.StanzaError.{StanzaError}
use Rattle.index.specs.Index.{first_place, read_item}
use Rattle.index.specs.declared.error.IndexFault.{IndexFault}

-- what was read, where nothing was refused
abbrev pub unless_refused : Result (Option IndexStanza) IndexFault → Option IndexStanza
unless_refused (Err refused) = None
unless_refused (Ok entry) = entry

-- the stanza of these items, if they are one alone
abbrev pub alone_in : List ℕ → List (Result StanzaText StanzaError) → Option IndexStanza
alone_in arch [] = None
alone_in arch (item ∷ []) = unless_refused (read_item arch (first_place 1) item)
alone_in arch (item ∷ next ∷ items) = None

-- the stanza of a text that is one, if that isn't refused and counts for the architecture
abbrev pub alone : List ℕ → List ℕ → Option IndexStanza
alone arch text = alone_in arch (items_of Plain text)
