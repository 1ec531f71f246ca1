-- What is refused before the plan is the first refusal; the steps are those of the plan that is read.
use Rattle.std.proofs.Common.{◌≡◌, ◌∙◌, List, Ok, subst, sym}
use Rattle.std.proofs.lemmas.Result.{err_from_is_err_and}
use Rattle.rules.specs.declared.step.Step.{Step}
use Rattle.inputs.specs.ReadAs.{start_of}
use Rattle.inputs.specs.Texts.{texts_of}
use Rattle.inputs.proofs.ReadByLemmas.{answered, read_on, then_wanting}
use Rattle.cli_engine.specs.Answer.{plan_of}
use Rattle.cli_engine.proofs.check.CheckPlanQuestion.answer.Goals as goal

pub returns-in_err-steps-clause-said : goal.returns-in_err-steps-clause-said
returns-in_err-steps-clause-said g c = λ at known read.
    let denoted = (c.in_ok-universe.ensures.asked at known read).denoted in
    let p = err_from_is_err_and c.from_residual-in_err-steps.result c.from_residual-in_err-steps.ensures.1 in
    rw (p.1, p.2) (c.in_err-steps.ensures.refused at (texts_of c.args.before.now.settings.now at) c.in_ok-universe.field-0.universe
    (start_of c.args.before.now) (c.in_ok-universe.ensures.read.same ∙ known) denoted)

pub returns-in_err-judged-clause-read : goal.returns-in_err-judged-clause-read
returns-in_err-judged-clause-read g c = then_wanting c.from_residual-in_err-judged.result
    (read_on g.met.S.Shelf.holds_on c.in_ok-universe.ensures.read c.in_ok-steps.ensures.read) c.from_residual-in_err-judged.ensures.1

pub returns-clause-read : goal.returns-clause-read
returns-clause-read g c = answered (read_on g.met.S.Shelf.holds_on c.in_ok-universe.ensures.read c.in_ok-steps.ensures.read)

pub returns-clause-said : goal.returns-clause-said
returns-clause-said g c = λ at known read.
    let steps = c.in_ok-steps.ensures.ok at (c.in_ok-universe.ensures.read.same ∙ known) in
    record {
      answer = record {
        universe = c.in_ok-universe.field-0.universe;
        start = start_of c.args.before.now;
        steps = c.in_ok-steps.steps.items;
        denoted = (c.in_ok-universe.ensures.asked at known read).denoted;
        read = steps;
        holds = c.in_ok-judged.ensures.exact;
      };
      read = subst (λ (ss : List Step). plan_of at.judged ≡ Ok ss) (sym c.in_ok-judged.ensures.steps) steps;
      reasons = c.in_ok-judged.ensures.reasons;
    }
