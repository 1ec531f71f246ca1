-- Of the names before the index those that went are added.
use Rattle.std.proofs.Common.{length}
use Rattle.plancheck_group.specs.Part.{IsDroppedTo}
use Rattle.plancheck_group.proofs.lacking.drop_asking.Given as goal

abbrev pub invariant-loop-asking : goal.invariant-loop-asking
invariant-loop-asking l = IsDroppedTo l.db l.initial.part l.part (length l.initial.next.items) (length l.next.items)
