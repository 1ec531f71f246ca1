-- The steps so far are a run.
use Rattle.forward_steps.specs.PartialPlan.{IsReached}
use Rattle.order.proofs.install.install_ready.Given as goal

abbrev pub invariant-loop-rank : goal.invariant-loop-rank
invariant-loop-rank l = IsReached l.problem l.plan
