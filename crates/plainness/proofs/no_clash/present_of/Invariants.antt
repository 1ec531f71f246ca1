-- The packages so far, and those of the records that are left, are those of all.
use Rattle.std.proofs.Common.{◌≡◌, ◌++◌, Bor, drop, map}
use Rattle.std.specs.List.{filter}
use Rattle.rules.specs.Database.{Record, pkg_of}
use Rattle.rules.specs.Package.{Pkg}
use Rattle.rules.specs.State.{is_present_state}
use Rattle.plainness.proofs.no_clash.present_of.Given as goal

abbrev pub invariant-loop-entry : goal.invariant-loop-entry
invariant-loop-entry l =
    map (λ (pkg : Bor Pkg). pkg.now) l.present.items ++ map pkg_of (filter (λ (entry : Record). is_present_state entry.state) (drop l.entry-index l.records))
    ≡ map pkg_of (filter (λ (entry : Record). is_present_state entry.state) l.records)
