-- Nothing is changed so far, and those before the index can't be taken.
use Rattle.std.proofs.Common.{◌≡◌, take}
use Rattle.std.specs.List.{All}
use Rattle.forward_steps.specs.PartialPlan.{CannotUnpack, IsReached}
use Rattle.forward_steps.proofs.forward.unpack_first.Given as goal

abbrev pub invariant-loop-member : goal.invariant-loop-member
invariant-loop-member l = record {
  reached : IsReached l.problem l.plan;
  same : l.plan.db ≡ l.initial.plan.db;
  refused : All (CannotUnpack l.problem.universe.now l.initial.plan.db) (take l.member-index l.member-items);
}
