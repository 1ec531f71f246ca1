-- The steps so far are a run, and each leaves less to be done.
use Rattle.forward_steps.specs.PartialPlan.{IsReached, selected_in}
use Rattle.forward_steps.specs.Work.{work_left}
use Rattle.forward_steps.proofs.forward.finish.Given as goal

abbrev pub invariant-loop-moved : goal.invariant-loop-moved
invariant-loop-moved l = IsReached l.problem l.plan

abbrev pub decreases-loop-moved : goal.decreases-loop-moved
decreases-loop-moved l = work_left (selected_in l.problem) l.plan.db
