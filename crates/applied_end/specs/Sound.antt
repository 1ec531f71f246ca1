-- What is read of the text of a status file that steps have left (this project's own).
use Rattle.std.specs.Prelude.{◌≡◌, ℕ, List, map, None, Ok}
use Rattle.rules.specs.declared.step.Step.{Step}
use Rattle.status_text.specs.Slot.{FileSlot, slot_records}
use Rattle.status_text.specs.Status.{read_status}
use Rattle.status.specs.Applicable.{handed_in, refused_name}
use Rattle.status.specs.Faithful.{IsSound, ReadsAsIfShort}
use Rattle.status.specs.Left.{stored_after}
use Rattle.status.specs.Stored.{as_stored, read_stored}
use Rattle.status.specs.Text.{slots_text}
use Rattle.std.specs.Prelude.{Option}

-- for the architecture the slots are sound: no two records have one name, and each slot can be written and reads back
abbrev pub AreSound : List ℕ → List FileSlot → Type 0
AreSound arch slots = IsSound (record { arch = arch; slots = slots })

-- what is read is sound
abbrev pub ReadIsSound : Type 0
ReadIsSound = (arch text : List ℕ) (slots : List FileSlot) → read_stored arch text ≡ Ok slots → AreSound arch slots

-- what a step that can be taken leaves of sound slots is sound
abbrev pub StepKeepsSound : Type 0
StepKeepsSound = (arch : List ℕ) (given : Option (List ℕ)) (step : Step) (slots : List FileSlot)
    → refused_name (handed_in arch given) step (slot_records slots) ≡ None → AreSound arch slots
    → AreSound arch (stored_after (handed_in arch given) step slots)

-- the text of sound slots, where it is within the limit, is read as them
abbrev pub SoundReadsBack : Type 0
SoundReadsBack = (arch : List ℕ) (slots : List FileSlot) → AreSound arch slots → ReadsAsIfShort arch (slots_text slots) slots

-- the text of slots that were read, where it is within the limit, is read as they are stored
abbrev pub ReadReadsAgain : Type 0
ReadReadsAgain = (arch text : List ℕ) (slots : List FileSlot) → read_status arch text ≡ Ok slots
    → ReadsAsIfShort arch (slots_text slots) (map as_stored slots)
