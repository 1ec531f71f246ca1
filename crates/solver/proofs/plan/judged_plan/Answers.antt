-- The judge says yes to a good plan.
use Rattle.std.proofs.Common.{List, subst}
use Rattle.rules.specs.Run.{IsGoodPlan}
use Rattle.rules.specs.Verdict.{IsVerdict}
use Rattle.rules.specs.declared.step.Step.{Step}
use Rattle.rules.specs.declared.step.Verdict.{Verdict}
use Rattle.rules.specs.declared.step.Verdict.TheVariants as verdict
use Rattle.solver.proofs.plan.judged_plan.Goals as goal

pub returns-in-Yes-clause-solved : goal.returns-in-Yes-clause-solved
returns-in-Yes-clause-solved c =
    let Is : Verdict → Type 0 = λ verdict. IsVerdict c.args.universe.now c.args.start.now c.as_slice.result.now verdict in
    let Good : List Step → Type 0 = λ steps. IsGoodPlan c.args.universe.now c.args.start.now steps in
    let yes : Is verdict.Yes = subst Is c.in-Yes.is c.in_ok-verdict.ensures in
    (subst Good c.as_slice.ensures.value yes, c.requires.planned)
