-- The text is that of the package's request.
use Rattle.std.proofs.Common.{◌≡◌, ◌∙◌, ℕ, List, subst}
use Rattle.inputs.specs.ReadAs.{asking}
use Rattle.inputs.specs.Refused.{IsRefusal}
use Rattle.std.proofs.lemmas.Result.{err_from_is_err_and}
use Rattle.installable.specs.Answers.{IsAnsweredBy}
use Rattle.installable.specs.RequestText.{request_of}
use Rattle.installable.proofs.over.answer_to.Goals as goal

pub returns-in_err-installability-clause-refused : goal.returns-in_err-installability-clause-refused
returns-in_err-installability-clause-refused c = λ texts read.
    let text : c.as_slice.result.now ≡ request_of c.args.beside.now c.args.stanza.now = c.as_slice.ensures.value ∙ c.in_ok-text.ensures in
    let p = err_from_is_err_and c.from_residual-in_err-installability.result c.from_residual-in_err-installability.ensures.1 in
    rw (p.1, p.2) (subst (λ (request : List ℕ). IsRefusal (asking request texts) c.in_err-installability.field-0.0) text
    (c.in_err-installability.ensures.refused texts read))

pub returns-clause-said : goal.returns-clause-said
returns-clause-said c = λ texts read.
    let text : c.as_slice.result.now ≡ request_of c.args.beside.now c.args.stanza.now = c.as_slice.ensures.value ∙ c.in_ok-text.ensures in
    record {
      name = c.in_ok-answer.ensures.name;
      version = c.in_ok-answer.ensures.version;
      holds = rw c.in_ok-answer.ensures.same (subst (λ (request : List ℕ). IsAnsweredBy texts request c.args.question.now.limit c.in_ok-installability.installability)
          text (c.in_ok-installability.ensures.said texts read));
    }
