-- What the goals so far ask for is marked.
use Rattle.std.proofs.Common.{◌≡◌, ℕ, ◌<◌, Some}
use Rattle.std.specs.Prelude.{slice_get}
use Rattle.rules.specs.Minimal.{AsksFor}
use Rattle.rules.specs.declared.goal.Goal.{Goal}
use Rattle.reach.specs.Marks.{Extends}
use Rattle.reach.specs.Reached.{HasAll}
use Rattle.reach.proofs.marks.Marks.mark_goals.Given as goal

abbrev pub invariant-loop-goal : goal.invariant-loop-goal
invariant-loop-goal l = Extends l.fn.self l.self
    × ((k : ℕ) (each : Goal) → k < l.goal-index → slice_get l.universe.goals k ≡ Some each
    → HasAll l.providers l.self.marks (λ pkg. AsksFor pkg.name each))
