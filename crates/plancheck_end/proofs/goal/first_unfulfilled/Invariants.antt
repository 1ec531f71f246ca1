-- The goals before the place are fulfilled.
use Rattle.std.proofs.Common.{ℕ, ◌<◌, get_or}
use Rattle.rules.specs.declared.goal.Goal.{Goal}
use Rattle.plancheck_end.specs.FirstGoal.{IsFulfilled}
use Rattle.plancheck_end.proofs.goal.first_unfulfilled.Given as goal

abbrev pub invariant-loop-place : goal.invariant-loop-place
invariant-loop-place l = (k : ℕ) (d : Goal) → k < l.place → IsFulfilled l.universe l.db (get_or l.goals k d)
