-- The steps so far are a run.
use Rattle.forward_steps.specs.PartialPlan.{IsReached}
use Rattle.order.proofs.strategy.free_some_waiting.Given as goal

abbrev pub invariant-loop-name : goal.invariant-loop-name
invariant-loop-name l = IsReached l.problem l.plan
