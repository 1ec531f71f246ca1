-- Nothing is changed so far, and those before the index can't be taken.
use Rattle.std.proofs.Common.{◌≡◌, take}
use Rattle.std.specs.List.{All}
use Rattle.forward_steps.specs.PartialPlan.{CannotRemove, IsReached}
use Rattle.forward_steps.proofs.forward.remove_among.Given as goal

abbrev pub invariant-loop-name : goal.invariant-loop-name
invariant-loop-name l = record {
  reached : IsReached l.problem l.plan;
  same : l.plan.db ≡ l.initial.plan.db;
  refused : All (CannotRemove l.problem.universe.now l.initial.plan.db) (take l.name-index l.names);
}
