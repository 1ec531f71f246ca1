-- The records of what an action writes are what it leaves.
use Rattle.std.proofs.Common.{◌≡◌, Bool, true, false, not, cond, List, [], ◌∷◌, ◌++◌, Option, Some, None, refl}
use Rattle.std.specs.List.{filter, list_any}
use Rattle.std.specs.Option.{option_map}
use Rattle.rules.specs.Database.{Record}
use Rattle.rules.specs.FileRecord.{FileRecord, IndexStanza, records_of, touched_entry, unpacked_entry, new_entry, changed_entries, entries_after_unpack, entries_after}
use Rattle.rules.specs.Step.{is_named, is_among, changed, deconfigured, configured, removed, unpacked_over, unpacked_with, after_unpack, result_of}
use Rattle.rules.specs.declared.step.Step.{Step}
use Rattle.rules.specs.declared.step.Step.TheVariants as step

-- where a change of entries is that of their records
records_changed : (test : Record → Bool) (change : Record → Record) (written : FileRecord → FileRecord)
    → ((entry : FileRecord) → (written entry).status ≡ change entry.status) → (entries : List FileRecord)
    → records_of (changed_entries test written entries) ≡ changed test change (records_of entries)
records_changed test change written agrees [] = refl
records_changed test change written agrees (entry ∷ rest) =
    at (test entry.status) (records_changed test change written agrees rest)
  where
    at : (b : Bool) → records_of (changed_entries test written rest) ≡ changed test change (records_of rest)
        → (cond b (written entry) entry).status ∷ records_of (changed_entries test written rest)
        ≡ cond b (change entry.status) entry.status ∷ changed test change (records_of rest)
    at true later = rw (agrees entry, later) refl
    at false later = rw later refl

records_filtered : (test : Record → Bool) (entries : List FileRecord)
    → records_of (filter (λ entry. test entry.status) entries) ≡ filter test (records_of entries)
records_filtered test [] = refl
records_filtered test (entry ∷ rest) = at (test entry.status) (records_filtered test rest)
  where
    at : (b : Bool) → records_of (filter (λ e. test e.status) rest) ≡ filter test (records_of rest)
        → records_of (cond b (entry ∷ filter (λ e. test e.status) rest) (filter (λ e. test e.status) rest))
        ≡ cond b (entry.status ∷ filter test (records_of rest)) (filter test (records_of rest))
    at true later = rw later refl
    at false later = later

records_appended : (entries : List FileRecord) (entry : FileRecord) → records_of (entries ++ entry ∷ []) ≡ records_of entries ++ entry.status ∷ []
records_appended [] entry = refl
records_appended (first ∷ rest) entry = rw (records_appended rest entry) refl

records_unpacked : (indexed : IndexStanza) (entries : List FileRecord)
    → records_of (entries_after_unpack indexed entries) ≡ after_unpack indexed.listed (records_of entries)
records_unpacked indexed entries = at (list_any (is_named indexed.listed.pkg.name) (records_of entries))
  where
    at : (b : Bool) → records_of (cond b (changed_entries (is_named indexed.listed.pkg.name) (unpacked_entry indexed) entries) (entries ++ new_entry indexed ∷ []))
        ≡ cond b (changed (is_named indexed.listed.pkg.name) (unpacked_over indexed.listed) (records_of entries)) (records_of entries ++ unpacked_with indexed.listed None ∷ [])
    at true = records_changed (is_named indexed.listed.pkg.name) (unpacked_over indexed.listed) (unpacked_entry indexed) (λ entry. refl) entries
    at false = records_appended entries (new_entry indexed)

pub written_as_left : (indexed : Option IndexStanza) (taken : Step) (entries : List FileRecord)
    → records_of (entries_after indexed taken entries) ≡ result_of (option_map (λ stanza. stanza.listed) indexed) taken (records_of entries)
written_as_left None (step.Unpack name version) entries = refl
written_as_left (Some indexed) (step.Unpack name version) entries = records_unpacked indexed entries
written_as_left indexed (step.Deconfigure name) entries =
    records_changed (is_named name) deconfigured (touched_entry deconfigured) (λ entry. refl) entries
written_as_left indexed (step.Configure names) entries =
    records_changed (is_among names) configured (touched_entry configured) (λ entry. refl) entries
written_as_left indexed (step.Remove name) entries =
    records_changed (is_named name) removed (touched_entry removed) (λ entry. refl) entries
written_as_left indexed (step.Purge name) entries = records_filtered (λ entry. not (is_named name entry)) entries
