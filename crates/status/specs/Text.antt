-- The text of the status file as it is stored: the stanzas of its slots, each followed by an empty line.
use Rattle.std.specs.Prelude.{ℕ, List, [], ◌∷◌, ◌++◌, map, Option, None, Some}
use Rattle.std.specs.List.{flat_map}
use Rattle.stanza.specs.declared.lines.TheConstants.{NEWLINE}
use Rattle.status_text.specs.Spelling.{file_text}
use Rattle.status_text.specs.Slot.{FileSlot, stanza_of}

-- the text of slots
abbrev pub slots_text : List FileSlot → List ℕ
slots_text slots = file_text (map stanza_of slots)

-- what is written of the text in a place, if there is one: it, and an empty line
abbrev pub place_text : Option (List ℕ) → List ℕ
place_text None = []
place_text (Some text) = text ++ NEWLINE ∷ []

-- what is written of the texts in their places
abbrev pub places_text : List (Option (List ℕ)) → List ℕ
places_text texts = flat_map place_text texts
