-- What the starts so far ask for is marked.
use Rattle.std.proofs.Common.{◌≡◌, ℕ, ◌<◌, Some}
use Rattle.std.specs.Prelude.{slice_get, IsTrue}
use Rattle.rules.specs.Universe.{Start}
use Rattle.reach.specs.Marks.{Extends}
use Rattle.reach.specs.Reached.{HasAll}
use Rattle.reach.proofs.marks.Marks.mark_starts.Given as goal

abbrev pub invariant-loop-start : goal.invariant-loop-start
invariant-loop-start l = Extends l.fn.self l.self
    × ((k : ℕ) (each : Start) → k < l.start-index → slice_get l.universe.starts k ≡ Some each
    → HasAll l.providers l.self.marks (λ pkg. (each.name ≡ pkg.name) × IsTrue each.is_present))
