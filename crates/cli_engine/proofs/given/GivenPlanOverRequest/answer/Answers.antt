-- A plan that is refused is the first refusal of the texts with the request; the steps are those of the plan.
use Rattle.std.proofs.Common.{◌≡◌, List, Ok, Some, subst, sym}
use Rattle.std.proofs.lemmas.Result.{err_from_is_err_and}
use Rattle.rules.specs.declared.step.Step.{Step}
use Rattle.inputs.specs.ReadAs.{start_of}
use Rattle.cli_engine.specs.Answer.{plan_of}
use Rattle.cli_engine.proofs.given.GivenPlanOverRequest.answer.Goals as goal

pub returns-in_err-steps-clause-said : goal.returns-in_err-steps-clause-said
returns-in_err-steps-clause-said c = λ texts asked indexed.
    let p = err_from_is_err_and c.from_residual.result c.from_residual.ensures.1 in
    rw (p.1, p.2) (c.in_err-steps.ensures.refused texts c.args.requested.now.universe (start_of c.args.before.now) asked.denoted)

pub returns-clause-said : goal.returns-clause-said
returns-clause-said c = λ texts asked indexed.
    let given = Some c.args.self.now.plan.now in
    record {
      answer = record {
        universe = c.args.requested.now.universe;
        start = start_of c.args.before.now;
        steps = c.in_ok-steps.steps.items;
        denoted = asked.denoted;
        read = c.in_ok-steps.ensures.ok;
        holds = c.in_ok-judged.ensures.exact;
      };
      read = subst (λ (ss : List Step). plan_of given ≡ Ok ss) (sym c.in_ok-judged.ensures.steps) c.in_ok-steps.ensures.ok;
      reasons = c.in_ok-judged.ensures.reasons;
    }
