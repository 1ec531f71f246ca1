-- The steps so far are a run.
use Rattle.forward_steps.specs.PartialPlan.{IsReached}
use Rattle.order.proofs.tidy.tidy.Given as goal

abbrev pub invariant-loop : goal.invariant-loop
invariant-loop l = IsReached l.problem l.plan
