-- The entries of what a step leaves are those that its action writes.
use Rattle.std.proofs.Common.{◌≡◌, ℕ, Bool, true, false, cond, not, ◌||◌, List, [], ◌∷◌, ◌++◌, Option, Some, None, refl, ap, ◌∙◌, bytes_eq, if◌then◌else◌}
use Rattle.std.proofs.lemmas.List.Concat.{flat_map-append}
use Rattle.std.specs.List.{filter, list_any}
use Rattle.rules.specs.Database.{Record}
use Rattle.rules.specs.FileRecord.{FileRecord, IndexStanza, changed_entries, entries_after, entries_after_unpack, new_entry, touched_entry, unpacked_entry}
use Rattle.rules.specs.Step.{configured, deconfigured, is_among, is_named, removed}
use Rattle.rules.specs.declared.step.Step.{Step}
use Rattle.rules.specs.declared.step.Step.TheVariants as step
use Rattle.status_text.specs.Slot.{FileSlot, entries_of, entry_in, slot_records}
use Rattle.status_text.specs.declared.slot.Slot.TheVariants.{Recorded, Foreign}
use Rattle.status.specs.Left.{slots_after, slots_after_unpack}
use Rattle.status.specs.Slots.{changed_slots, has_name, is_slot_named}

entries_changed : (test : Record → Bool) (change : FileRecord → FileRecord) (slots : List FileSlot)
    → entries_of (changed_slots test change slots) ≡ changed_entries test change (entries_of slots)
entries_changed test change [] = refl
entries_changed test change (Foreign stanza ∷ slots) = entries_changed test change slots
entries_changed test change (Recorded entry ∷ slots) =
    ap (λ later. (if test entry.status then change entry else entry) ∷ later) (entries_changed test change slots)

entries_filtered : (name : List ℕ) (slots : List FileSlot)
    → entries_of (filter (λ slot. not (is_slot_named name slot)) slots) ≡ filter (λ entry. not (is_named name entry.status)) (entries_of slots)
entries_filtered name [] = refl
entries_filtered name (Foreign stanza ∷ slots) = entries_filtered name slots
entries_filtered name (Recorded entry ∷ slots) = at (not (bytes_eq entry.status.name name)) (entries_filtered name slots)
  where
    at : (b : Bool) → entries_of (filter (λ slot. not (is_slot_named name slot)) slots) ≡ filter (λ (e : FileRecord). not (is_named name e.status)) (entries_of slots)
        → entries_of (cond b (Recorded entry ∷ filter (λ slot. not (is_slot_named name slot)) slots) (filter (λ slot. not (is_slot_named name slot)) slots))
        ≡ cond b (entry ∷ filter (λ (e : FileRecord). not (is_named name e.status)) (entries_of slots)) (filter (λ (e : FileRecord). not (is_named name e.status)) (entries_of slots))
    at true later = ap (λ rest. entry ∷ rest) later
    at false later = later

pub has_name-records : (name : List ℕ) (slots : List FileSlot) → has_name name slots ≡ list_any (is_named name) (slot_records slots)
has_name-records name [] = refl
has_name-records name (Foreign stanza ∷ slots) = has_name-records name slots
has_name-records name (Recorded entry ∷ slots) = ap (λ later. bytes_eq entry.status.name name || later) (has_name-records name slots)

entries_unpacked : (indexed : IndexStanza) (slots : List FileSlot)
    → entries_of (slots_after_unpack indexed slots) ≡ entries_after_unpack indexed (entries_of slots)
entries_unpacked indexed slots =
    at (has_name indexed.listed.pkg.name slots)
    ∙ ap (λ b. if b then changed_entries (is_named indexed.listed.pkg.name) (unpacked_entry indexed) (entries_of slots) else entries_of slots ++ new_entry indexed ∷ [])
    (has_name-records indexed.listed.pkg.name slots)
  where
    at : (b : Bool) → entries_of (cond b (changed_slots (is_named indexed.listed.pkg.name) (unpacked_entry indexed) slots) (slots ++ Recorded (new_entry indexed) ∷ []))
        ≡ cond b (changed_entries (is_named indexed.listed.pkg.name) (unpacked_entry indexed) (entries_of slots)) (entries_of slots ++ new_entry indexed ∷ [])
    at true = entries_changed (is_named indexed.listed.pkg.name) (unpacked_entry indexed) slots
    at false = flat_map-append entry_in slots (Recorded (new_entry indexed) ∷ [])

pub entries_are_written : (indexed : Option IndexStanza) (taken : Step) (slots : List FileSlot)
    → entries_of (slots_after indexed taken slots) ≡ entries_after indexed taken (entries_of slots)
entries_are_written None (step.Unpack name version) slots = refl
entries_are_written (Some indexed) (step.Unpack name version) slots = entries_unpacked indexed slots
entries_are_written indexed (step.Deconfigure name) slots = entries_changed (is_named name) (touched_entry deconfigured) slots
entries_are_written indexed (step.Configure names) slots = entries_changed (is_among names) (touched_entry configured) slots
entries_are_written indexed (step.Remove name) slots = entries_changed (is_named name) (touched_entry removed) slots
entries_are_written indexed (step.Purge name) slots = entries_filtered name slots
