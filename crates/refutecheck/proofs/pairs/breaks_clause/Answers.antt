-- What holds of the two packages holds of the pairs.
use Rattle.std.specs.Prelude.{IsTrue}
use Rattle.refutation.specs.Premise.{BreaksAnother, IsEitherOut, PairsAre}
use Rattle.refutecheck.proofs.AnswerLemmas.{where_same}
use Rattle.refutecheck.proofs.PairLemmas.{decides_of_two}
use Rattle.refutecheck.proofs.pairs.breaks_clause.Goals as goal

pub returns : goal.returns
returns c = where_same (IsTrue c.breaks_another-is_premise.result) (PairsAre c.args.premises.now c.args.number c.args.other BreaksAnother)
    (IsEitherOut c.args.number c.args.other) c.in_ok-answer.answer
    (decides_of_two c.args.premises.now c.args.number c.args.other c.pkg.result.now c.pkg-2.result.now BreaksAnother
    c.breaks_another-is_premise.result (cc (c.pkg.ensures, c.in-Some.is, c.in_ok-one.ensures))
    (cc (c.pkg-2.ensures, c.in-Some-2.is, c.in_ok-two.ensures)) c.breaks_another-is_premise.ensures) c.in_ok-answer.ensures
