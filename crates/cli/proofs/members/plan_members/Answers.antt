-- What is told and the steps are put, and last the verdict.
use Rattle.std.proofs.Common.{List, subst}
use Rattle.cli.proofs.members.plan_members.Goals as goal
use Rattle.cli.specs.Again.{archives_by}
use Rattle.cli.specs.Members.{AreTold}
use Rattle.inputs.specs.Texts.{texts_of}
use Rattle.json_answers.specs.Steps.{AreWithSteps}
use Rattle.rules.specs.declared.step.Step.{Step}
use Rattle.serde_json.specs.Data.{Members}
use Rattle.serde_json.specs.View.{members_view}

pub returns-clause-members : goal.returns-clause-members
returns-clause-members g c at known =
    let judged = c.args.judged.now in
    let hints = c.args.hints.now in
    let archives = archives_by (texts_of c.args.settings.now at) in
    let told = members_view c.put_told.new.members.map.entries in
    let stepped = members_view c.put_plan.new.members.map.entries in
    record {
      hints = hints;
      told = told;
      stepped = stepped;
      reasons = subst (λ (old : Members). AreTold judged.reasons hints old told) c.new-members.ensures c.in_ok-put_told.ensures;
      steps = subst (λ (steps : List Step). AreWithSteps archives steps told stepped) c.as_slice.ensures.value (c.in_ok-put_plan.ensures.steps at known);
      answer = c.in_ok-put_verdict.ensures;
    }
