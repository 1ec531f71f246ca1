-- The steps so far are configures, and the change is underway with nothing to be removed; each leaves fewer names.
use Rattle.std.proofs.Common.{length}
use Rattle.plain.specs.Change.{HasNothingToRemove}
use Rattle.plain.specs.Order.{AreNextSteps, IsNextConfigure}
use Rattle.plain.specs.Underway.{unconfigured_of}
use Rattle.fixed_order.specs.Problem.{IsUnderwayOn, members_in}
use Rattle.fixed_order.specs.Waiting.{IsWaitingIn}
use Rattle.fixed_order.proofs.configure.configures_of.Given as goal

abbrev pub invariant-loop-steps : goal.invariant-loop-steps
invariant-loop-steps l = record {
  waiting : IsWaitingIn l.db l.waiting;
  underway : IsUnderwayOn l.problem l.db;
  nothing : HasNothingToRemove (members_in l.problem) l.db;
  so_far : AreNextSteps (IsNextConfigure l.problem.universe.now) l.problem.universe.now l.initial.db l.steps.items l.db;
}

abbrev pub decreases-loop-steps : goal.decreases-loop-steps
decreases-loop-steps l = length (unconfigured_of l.db)
