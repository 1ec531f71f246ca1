-- Each line before the place was tried, and the answer is that to what is left.
use Rattle.inputs.specs.ReadBy.{IsUntouched}
use Rattle.keep_back.specs.Back.{IsPass}
use Rattle.keep_back.specs.Further.{request_of}
use Rattle.keep_back.specs.Round.{IsSolvedRequest}
use Rattle.keep_back.proofs.back.pass.Given as goal

abbrev pub invariant-loop-place : goal.invariant-loop-place
invariant-loop-place g l = record {
  pass : IsPass l.before l.limit l.place l.fn.left l.left l.is_more;
  answer : IsSolvedRequest l.before l.limit (request_of l.left) l.answer;
  untouched : IsUntouched g.S.Shelf l.fn.shelf l.shelf;
}
