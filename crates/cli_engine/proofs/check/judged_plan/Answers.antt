-- The steps that are judged are those of the plan.
use Rattle.std.proofs.Common.{List, subst}
use Rattle.inputs.specs.ReadAs.{start_of}
use Rattle.plan_sentences.specs.No.{TellsVerdict}
use Rattle.rules.specs.Verdict.{IsVerdict}
use Rattle.rules.specs.declared.step.Step.{Step}
use Rattle.cli_engine.specs.Reasons.{IsToldWhere}
use Rattle.cli_engine.proofs.check.judged_plan.Goals as goal

pub returns-clause-exact : goal.returns-clause-exact
returns-clause-exact c =
    subst (λ (steps : List Step). IsVerdict c.args.universe.now (start_of c.args.before.now) steps c.in_ok-verdict.verdict) c.as_slice.ensures.value
    c.in_ok-verdict.ensures

pub returns-clause-reasons : goal.returns-clause-reasons
returns-clause-reasons c =
    subst (λ (steps : List Step). IsToldWhere c.args.tells_reasons
    (TellsVerdict c.args.universe.now (start_of c.args.before.now) steps c.in_ok-verdict.verdict) c.reasons_of_plan-reasons.result)
    c.as_slice-2.ensures.value c.reasons_of_plan-reasons.ensures
