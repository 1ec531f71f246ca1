-- The slots of the status file by the names of their records (dpkg(1); Policy 5.6.1).
use Rattle.std.specs.Prelude.{◌≡◌, ℕ, Bool, false, List, map, Option, ⊤, if◌then◌else◌}
use Rattle.std.specs.List.{find, list_any}
use Rattle.rules.specs.Database.{Record}
use Rattle.rules.specs.FileRecord.{FileRecord}
use Rattle.rules.specs.Step.{is_named}
use Rattle.status_text.specs.Slot.{FileSlot, entries_of}
use Rattle.status_text.specs.declared.slot.Slot.TheVariants.{Recorded, Foreign}

-- the names of the records of slots
abbrev pub names_of : List FileSlot → List (List ℕ)
names_of slots = map (λ entry. entry.status.name) (entries_of slots)

-- the entry of the name, if there is one
abbrev pub entry_named : List ℕ → List FileSlot → Option FileRecord
entry_named name slots = find (λ entry. is_named name entry.status) (entries_of slots)

-- the slot has a record of this name
abbrev pub is_slot_named : List ℕ → FileSlot → Bool
is_slot_named name (Recorded entry) = is_named name entry.status
is_slot_named name (Foreign stanza) = false

-- a slot has a record of this name
abbrev pub has_name : List ℕ → List FileSlot → Bool
has_name name slots = list_any (is_slot_named name) slots

-- the slot, with its entry changed if the record passes the test
abbrev pub changed_slot : (Record → Bool) → (FileRecord → FileRecord) → FileSlot → FileSlot
changed_slot test change (Recorded entry) = Recorded (if test entry.status then change entry else entry)
changed_slot test change (Foreign stanza) = Foreign stanza

-- the slots with each entry whose record passes the test changed
abbrev pub changed_slots : (Record → Bool) → (FileRecord → FileRecord) → List FileSlot → List FileSlot
changed_slots test change slots = map (changed_slot test change) slots

-- no slot has a record of the name of this one
abbrev pub IsNew : FileSlot → List FileSlot → Type 0
IsNew (Recorded entry) slots = has_name entry.status.name slots ≡ false
IsNew (Foreign stanza) slots = ⊤
