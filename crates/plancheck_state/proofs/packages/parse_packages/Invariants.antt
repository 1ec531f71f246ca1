-- The packages so far, and those of the records that are left, are the packages of all.
use Rattle.std.proofs.Common.{◌≡◌, ◌++◌, drop, map}
use Rattle.plancheck_state.specs.Packages.{packages_of}
use Rattle.plancheck_state.proofs.packages.parse_packages.Given as goal

abbrev pub invariant-loop-record : goal.invariant-loop-record
invariant-loop-record l = l.packages.items ++ packages_of (map (λ entry. entry.now) (drop l.record-index l.records))
    ≡ packages_of (map (λ entry. entry.now) l.records)
