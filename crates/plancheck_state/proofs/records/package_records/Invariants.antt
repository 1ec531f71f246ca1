-- The view so far, and the records that are left, are the records of all; the place is that of the record.
use Rattle.std.proofs.Common.{◌≡◌, ◌++◌, drop, map}
use Rattle.rules.specs.FileRecord.{records_of}
use Rattle.plancheck_state.proofs.records.package_records.Given as goal

abbrev pub invariant-loop-record : goal.invariant-loop-record
invariant-loop-record l = (l.view.items ++ records_of (map (λ entry. entry.now) (drop l.record-index l.records))
    ≡ records_of (map (λ entry. entry.now) l.records)) × (l.place ≡ l.record-index)
