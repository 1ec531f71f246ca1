-- What is refused before the plan is the first refusal; the verdict is on the steps of the plan that is read.
use Rattle.std.proofs.Common.{inl, List, subst, ◌∙◌}
use Rattle.std.proofs.lemmas.Result.{err_from_is_err_and}
use Rattle.rules.specs.Verdict.{IsVerdict}
use Rattle.rules.specs.declared.step.Step.{Step}
use Rattle.inputs.specs.ReadAs.{start_of}
use Rattle.inputs.specs.Texts.{texts_of}
use Rattle.apply_engine.proofs.judging.judge_plan.Goals as goal

pub returns-in_err-universe-clause-refused : goal.returns-in_err-universe-clause-refused
returns-in_err-universe-clause-refused g c = λ at known read.
    let p = err_from_is_err_and c.from_residual.result c.from_residual.ensures.1 in
    rw (p.1, p.2) (inl (c.in_err-universe.ensures.refused at known read))

pub returns-in_err-steps-clause-refused : goal.returns-in_err-steps-clause-refused
returns-in_err-steps-clause-refused g c = λ at known read.
    let denoted = (c.in_ok-universe.ensures.asked at known read).denoted in
    let p = err_from_is_err_and c.from_residual-in_err-steps.result c.from_residual-in_err-steps.ensures.1 in
    rw (p.1, p.2) (c.in_err-steps.ensures.refused at (texts_of c.args.before.now.settings.now at) c.in_ok-universe.field-0.universe
    (start_of c.args.before.now) (c.in_ok-universe.ensures.read.same ∙ known) denoted)

pub returns-clause-answer : goal.returns-clause-answer
returns-clause-answer g c = λ at known read. record {
  begin = start_of c.args.before.now;
  read_as = record {
    denoted = (c.in_ok-universe.ensures.asked at known read).denoted;
    read = c.in_ok-steps.ensures.ok at (c.in_ok-universe.ensures.read.same ∙ known);
  };
  holds = subst (λ (ss : List Step). IsVerdict c.in_ok-universe.field-0.universe (start_of c.args.before.now) ss c.in_ok-verdict.verdict)
      c.as_slice.ensures.value c.in_ok-verdict.ensures;
}
