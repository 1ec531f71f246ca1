-- The archives of the steps are those among the stanzas that were read again.
use Rattle.std.proofs.Common.{◌≡◌, ◌∙◌, OnOk, subst}
use Rattle.cli.proofs.members.put_plan.Goals as goal
use Rattle.cli.specs.Again.{stanzas_again}
use Rattle.inputs.specs.Texts.{texts_of}
use Rattle.json_answers.proofs.FoundLemmas.{also_first}
use Rattle.json_answers.specs.Archives.{StepArchives}
use Rattle.json_answers.specs.Steps.{with_steps}
use Rattle.serde_json.specs.View.{members_view}

pub returns-clause-steps : goal.returns-clause-steps
returns-clause-steps g c at known =
    let settings = c.args.settings.now in
    let old = members_view c.args.members.now.map.entries in
    subst (λ (found : StepArchives). OnOk c.put_steps.result
    (members_view c.put_steps.new.members.map.entries ≡ with_steps found.steps found.archives old))
    (c.in_ok-archives.ensures.archives at known ∙ also_first settings.arch.now (stanzas_again (texts_of settings at)) c.args.steps.now)
    c.put_steps.ensures
