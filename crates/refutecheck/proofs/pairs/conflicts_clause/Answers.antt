-- What holds of the two packages holds of the pairs.
use Rattle.std.specs.Prelude.{IsTrue}
use Rattle.refutation.specs.Premise.{ConflictsWithOther, IsEitherOut, PairsAre}
use Rattle.refutecheck.proofs.AnswerLemmas.{where_same}
use Rattle.refutecheck.proofs.PairLemmas.{decides_of_two}
use Rattle.refutecheck.proofs.pairs.conflicts_clause.Goals as goal

pub returns : goal.returns
returns c = where_same (IsTrue c.conflicts_with_other-is_premise.result) (PairsAre c.args.premises.now c.args.number c.args.other ConflictsWithOther)
    (IsEitherOut c.args.number c.args.other) c.in_ok-answer.answer
    (decides_of_two c.args.premises.now c.args.number c.args.other c.pkg.result.now c.pkg-2.result.now ConflictsWithOther
    c.conflicts_with_other-is_premise.result (cc (c.pkg.ensures, c.in-Some.is, c.in_ok-one.ensures))
    (cc (c.pkg-2.ensures, c.in-Some-2.is, c.in_ok-two.ensures)) c.conflicts_with_other-is_premise.ensures) c.in_ok-answer.ensures
