-- What is left is further than it was, and the answer is that to it.
use Rattle.inputs.specs.ReadBy.{IsUntouched}
use Rattle.keep_back.specs.Back.{count_out}
use Rattle.keep_back.specs.Further.{IsFurther, request_of}
use Rattle.keep_back.specs.Round.{IsSolvedRequest}
use Rattle.keep_back.proofs.back.put_back.Given as goal

abbrev pub invariant-turns : goal.invariant-turns
invariant-turns g l = record {
  left : IsFurther l.before l.fn.left l.left;
  answer : IsSolvedRequest l.before l.limit (request_of l.left) l.answer;
  untouched : IsUntouched g.S.Shelf l.fn.shelf l.shelf;
}

abbrev pub decreases-turns : goal.decreases-turns
decreases-turns g l = count_out l.left.stays.items
