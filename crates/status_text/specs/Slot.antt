-- The stanzas of the status file in their order. One that has no record is kept as it was read: that this is a
-- not-installed stanza of another architecture is this project's own.
use Rattle.std.specs.Prelude.{ℕ, List, [], ◌∷◌, ◌++◌}
use Rattle.std.specs.List.{flat_map}
use Rattle.relation.specs.PackageStanza.{read_stanza}
use Rattle.rules.specs.Database.{Record}
use Rattle.rules.specs.FileRecord.{FileRecord, records_of}
use Rattle.rules.specs.Stanza.{Stanza}
use Rattle.status_text.specs.declared.slot.Slot.{Slot}
use Rattle.status_text.specs.declared.slot.Slot.TheVariants.{Recorded, Foreign}

-- a stanza of the file: an entry, or a stanza that has no record
abbrev pub FileSlot : Type 0
FileSlot = Slot FileRecord

-- the entry of a slot, if it has one, as entries
abbrev pub entry_in : FileSlot → List FileRecord
entry_in (Recorded entry) = entry ∷ []
entry_in (Foreign stanza) = []

-- the entries of the slots
abbrev pub entries_of : List FileSlot → List FileRecord
entries_of slots = flat_map entry_in slots

-- the records of slots
abbrev pub slot_records : List FileSlot → List Record
slot_records slots = records_of (entries_of slots)

-- the status file as it is stored: its slots in their order, for an architecture
pub record Store : Type 0 where
  pub arch : List ℕ
  pub slots : List FileSlot

-- the stanza of a slot
abbrev pub stanza_of : FileSlot → Stanza
stanza_of (Recorded entry) = entry.stanza
stanza_of (Foreign stanza) = read_stanza stanza

-- the names with that of a slot behind them, if it has a record
abbrev pub names_with : List (List ℕ) → FileSlot → List (List ℕ)
names_with seen (Recorded entry) = seen ++ entry.status.name ∷ []
names_with seen (Foreign stanza) = seen
