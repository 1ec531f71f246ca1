-- A text that is one stanza of a status file (dpkg(1), "Package states"; Policy 5.1).
use Rattle.std.specs.Prelude.{ℕ, List, [], ◌∷◌, Option, None, Some, Result, Ok, Err}
use Rattle.stanza.specs.declared.form.Form.TheVariants.{Plain}
use Rattle.stanza.specs.declared.error.StanzaError.{StanzaError}
use Rattle.stanza.specs.Stanza.{StanzaText, items_of}
use Rattle.status_text.specs.Slot.{FileSlot}
use Rattle.status_text.specs.Status.{read_item}
use Rattle.status_text.specs.declared.error.StatusFault.{StatusFault}

-- what was read, where nothing was refused
abbrev pub unless_refused : Result FileSlot StatusFault → Option FileSlot
unless_refused (Err refused) = None
unless_refused (Ok slot) = Some slot

-- the slot of an item, if that isn't refused
abbrev pub alone_item : List ℕ → Result StanzaText StanzaError → Option FileSlot
alone_item arch item = unless_refused (read_item arch [] item)

-- the slot of these items, if they are one alone
abbrev pub alone_in : List ℕ → List (Result StanzaText StanzaError) → Option FileSlot
alone_in arch [] = None
alone_in arch (item ∷ []) = alone_item arch item
alone_in arch (item ∷ next ∷ items) = None

-- the slot of a text that is one stanza, if that isn't refused
abbrev pub alone : List ℕ → List ℕ → Option FileSlot
alone arch text = alone_in arch (items_of Plain text)
