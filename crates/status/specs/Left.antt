-- What an action leaves of the status file (dpkg(1)). A stanza that has no record stays where it is, and a new record
-- comes last: both are this project's own.
use Rattle.std.specs.Prelude.{◌≡◌, not, List, [], ◌∷◌, ◌++◌, map, Option, if◌then◌else◌}
use Rattle.std.specs.List.{filter}
use Rattle.std.specs.Option.{option_map_or}
use Rattle.rules.specs.FileRecord.{IndexStanza, entries_after, new_entry, touched_entry, unpacked_entry}
use Rattle.rules.specs.Step.{is_among, is_named, configured, deconfigured, removed}
use Rattle.rules.specs.declared.step.Step.{Step}
use Rattle.rules.specs.declared.step.Step.TheVariants as step
use Rattle.status_text.specs.Slot.{FileSlot, entries_of}
use Rattle.status_text.specs.declared.slot.Slot.TheVariants.{Recorded}
use Rattle.status.specs.Slots.{changed_slots, has_name, is_slot_named}
use Rattle.status.specs.Stored.{as_stored}

-- the slots after the unpacking: the entry in the place of the old one of its name, or last where there is none
abbrev pub slots_after_unpack : IndexStanza → List FileSlot → List FileSlot
slots_after_unpack indexed slots =
    if has_name indexed.listed.pkg.name slots
    then changed_slots (is_named indexed.listed.pkg.name) (unpacked_entry indexed) slots
    else slots ++ Recorded (new_entry indexed) ∷ []

-- the slots after the step, where an unpacked package is that of this stanza of an index
abbrev pub slots_after : Option IndexStanza → Step → List FileSlot → List FileSlot
slots_after indexed (step.Unpack name version) slots = option_map_or (λ stanza. slots_after_unpack stanza slots) indexed slots
slots_after indexed (step.Deconfigure name) slots = changed_slots (is_named name) (touched_entry deconfigured) slots
slots_after indexed (step.Configure names) slots = changed_slots (is_among names) (touched_entry configured) slots
slots_after indexed (step.Remove name) slots = changed_slots (is_named name) (touched_entry removed) slots
slots_after indexed (step.Purge name) slots = filter (λ slot. not (is_slot_named name slot)) slots

-- the entries of what a step leaves are what it writes
abbrev pub EntriesAreWritten : Type 0
EntriesAreWritten = (indexed : Option IndexStanza) (taken : Step) (slots : List FileSlot)
    → entries_of (slots_after indexed taken slots) ≡ entries_after indexed taken (entries_of slots)

-- what a step leaves of the status file, as it is stored
abbrev pub stored_after : Option IndexStanza → Step → List FileSlot → List FileSlot
stored_after indexed taken slots = map as_stored (slots_after indexed taken slots)
