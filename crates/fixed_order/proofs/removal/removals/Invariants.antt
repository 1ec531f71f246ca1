-- The steps so far are removals, the change is underway, and just the keys are to be removed; each step leaves fewer.
use Rattle.plain.specs.Change.{IsToRemove}
use Rattle.plain.specs.Order.{AreNextSteps, IsNextRemoval}
use Rattle.plain.specs.Underway.{removals_left}
use Rattle.fixed_order.specs.Problem.{IsUnderwayOn, members_in}
use Rattle.fixed_order.specs.Names.{AreAllWith}
use Rattle.fixed_order.proofs.removal.removals.Given as goal

abbrev pub invariant-loop-steps : goal.invariant-loop-steps
invariant-loop-steps l = record {
  underway : IsUnderwayOn l.problem l.db;
  so_far : AreNextSteps (IsNextRemoval l.problem.universe.now (members_in l.problem)) l.problem.universe.now l.initial.db l.steps.items l.db;
  keys : AreAllWith (IsToRemove (members_in l.problem) l.db) l.keys.items;
}

abbrev pub decreases-loop-steps : goal.decreases-loop-steps
decreases-loop-steps l = removals_left (members_in l.problem) l.db
