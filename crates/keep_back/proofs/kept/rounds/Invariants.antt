-- So far goals were left out of requests that are refuted, and nothing is read for them.
use Rattle.inputs.specs.ReadBy.{IsUntouched}
use Rattle.keep_back.specs.Further.{IsFurther}
use Rattle.keep_back.proofs.kept.rounds.Given as goal

abbrev pub invariant-loop : goal.invariant-loop
invariant-loop g l = record {
  left : IsFurther l.before l.fn.left l.left;
  untouched : IsUntouched g.S.Shelf l.fn.shelf l.shelf;
}
