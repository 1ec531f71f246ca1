-- One more package has its answer, or its request is refused.
use Rattle.std.proofs.Common.{◌+◌, ◌++◌, ◌∙◌, [], ◌∷◌, sym, ap, subst, take, take_all}
use Rattle.std.specs.List.{AllZip}
use Rattle.std.proofs.lemmas.List.{take_more}
use Rattle.std.proofs.lemmas.Result.{err_from_is_err_and}
use Rattle.inputs.proofs.ReadByLemmas.{then_wanting}
use Rattle.rules.specs.Step.{IndexPackage}
use Rattle.installable.specs.Answers.{IsPackageAnswer, IsRefusedFor}
use Rattle.installable.proofs.AskedLemmas.{some_at, zip_more}
use Rattle.installable.proofs.question.answers_to.Goals as goal
use mathlib.Core.Logic.{inr}

pub loop-stanza-preserved : goal.loop-stanza-preserved
loop-stanza-preserved g c = record {
  said = λ texts read.
      let asked = c.args.asked.now in
      let at = c.loop-stanza.stanza-index in
      let one = c.stanza-item.result in
      let Is = IsPackageAnswer texts c.args.question.now.limit c.args.beside.now in
      subst (AllZip Is (take (at + 1) asked)) (sym c.in_ok-push.ensures.items)
      (subst (λ ns. AllZip Is ns (c.loop-stanza.answers.items ++ c.in_ok-answer.answer ∷ []))
      (sym (take_more asked at one c.loop-stanza-test.true ∙ ap (λ (next : IndexPackage). take at asked ++ next ∷ []) (sym c.stanza-item.is)))
      (zip_more Is _ _ _ _ (c.loop-stanza.invariant.said texts read) (c.in_ok-answer.ensures.said texts read)));
  read = record {
    same = c.show.ensures.same ∙ c.loop-stanza.invariant.read.same;
    count = c.show.ensures.count ∙ c.loop-stanza.invariant.read.count;
    held = g.met.S.Shelf.holds_on _ _ _ c.loop-stanza.invariant.read.held c.show.ensures.held;
  };
}

pub returns-in_err-answer-clause-refused : goal.returns-in_err-answer-clause-refused
returns-in_err-answer-clause-refused g c = λ texts read.
    let p = err_from_is_err_and c.from_residual.result c.from_residual.ensures.1 in
    rw (p.1, p.2) (inr (some_at (IsRefusedFor texts c.args.beside.now c.in_err-answer.field-0.0)
    c.args.asked.now c.loop-stanza.stanza-index c.stanza-item.result c.loop-stanza-test.true (sym c.stanza-item.is)
    (c.in_err-answer.ensures.refused texts read)))

pub returns-in_err-answer-clause-read : goal.returns-in_err-answer-clause-read
returns-in_err-answer-clause-read g c =
    let p = err_from_is_err_and c.from_residual.result c.from_residual.ensures.1 in
    let read = c.loop-stanza.invariant.read in
    rw (p.1, p.2) (record { same = read.same; count = inr (c.in_err-answer.ensures.known, read.count); held = read.held })

pub returns-in_err-push-clause-read : goal.returns-in_err-push-clause-read
returns-in_err-push-clause-read g c = then_wanting c.from_residual-in_err-push.result c.loop-stanza.invariant.read c.from_residual-in_err-push.ensures.1

pub returns-clause-said : goal.returns-clause-said
returns-clause-said g c = λ texts read.
    subst (λ ns. AllZip (IsPackageAnswer texts c.args.question.now.limit c.args.beside.now) ns c.loop-stanza.answers.items)
    (take_all c.loop-stanza.stanza-index c.args.asked.now c.loop-stanza-test.false) (c.loop-stanza.invariant.said texts read)
