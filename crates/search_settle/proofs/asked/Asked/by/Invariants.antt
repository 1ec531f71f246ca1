-- The names so far, and those of the goals that are left, are the names of all.
use Rattle.std.proofs.Common.{◌≡◌, drop, fold}
use Rattle.search_settle.specs.Asked.{asked_in, with_asked}
use Rattle.search_settle.proofs.asked.Asked.by.Given as goal

abbrev pub invariant-loop-goal : goal.invariant-loop-goal
invariant-loop-goal l = fold with_asked l.asked (drop l.goal-index l.goals) ≡ asked_in l.goals
