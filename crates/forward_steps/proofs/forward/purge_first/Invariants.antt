-- Nothing is changed so far, and those before the index can't be taken.
use Rattle.std.proofs.Common.{◌≡◌, take}
use Rattle.std.specs.List.{All}
use Rattle.forward_steps.specs.PartialPlan.{CannotPurge, IsReached}
use Rattle.forward_steps.proofs.forward.purge_first.Given as goal

abbrev pub invariant-loop-asked : goal.invariant-loop-asked
invariant-loop-asked l = record {
  reached : IsReached l.problem l.plan;
  same : l.plan.db ≡ l.initial.plan.db;
  refused : All (CannotPurge l.problem.universe.now l.initial.plan.db) (take l.asked-index l.asked-items);
}
