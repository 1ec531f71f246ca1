-- For the names before the index what asks for them is dropped.
use Rattle.std.proofs.Common.{length}
use Rattle.plancheck_group.specs.Part.{IsDroppedTo}
use Rattle.plancheck_group.proofs.lacking.drop_next.Given as goal

abbrev pub invariant-loop-name : goal.invariant-loop-name
invariant-loop-name l = IsDroppedTo l.db l.initial.part l.part 0 (length l.next.items)
