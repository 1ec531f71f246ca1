-- The judge said yes, and each premise was found among those of the refutation.
use Rattle.std.proofs.Common.{List, subst}
use Rattle.refutation.specs.declared.line.Line.{Line}
use Rattle.trim.specs.Needed.{ArePremisesOf}
use Rattle.refutecheck.specs.Answer.{IsVerdict}
use Rattle.refutecheck.specs.declared.verdict.Verdict.{Verdict}
use Rattle.refutation_sentences.proofs.shorter.may_replace.Goals as goal

pub returns-in-Yes : goal.returns-in-Yes
returns-in-Yes c = λ is.
    let of_candidate : ArePremisesOf c.args.candidate.now c.as_slice-in-Yes.result.now =
    subst (λ (lines : List Line). ArePremisesOf lines c.as_slice-in-Yes.result.now) c.as_slice.ensures (c.are_premises_of.ensures is) in
    record {
      accepted = λ given. subst (λ (verdict : Verdict). IsVerdict c.args.premises.now c.args.candidate.now verdict) c.in-Yes.is
          c.in_ok-verdict.ensures.exact;
      premises = subst (λ (others : List Line). ArePremisesOf c.args.candidate.now others) c.as_slice-in-Yes.ensures of_candidate;
    }
