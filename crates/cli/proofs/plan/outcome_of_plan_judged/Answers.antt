-- What is printed is what is said of the texts of the files.
use Rattle.cli.proofs.ResultLemmas.{if_ok}
use Rattle.cli.proofs.plan.outcome_of_plan_judged.Goals as goal
use Rattle.cli.specs.Calls.{IsOutcomeOfPlanJudged, texts_at}
use Rattle.cli.specs.Files.{judged_at, shelved_at}
use Rattle.outcomes.specs.Outcome.{IsOutcomeIn}
use Rattle.serde_json.specs.View.{members_view}

pub returns-clause-printed : goal.returns-clause-printed
returns-clause-printed g c at known =
    let texts = texts_at at c.args.arguments.now in
    let written = c.args.arguments.now.format in
    let members = members_view c.in_ok-members.members.map.entries in
    if_ok c.outcome_in.result (IsOutcomeIn written members c.in_ok-plain.plain) (IsOutcomeOfPlanJudged texts (judged_at at c.args.arguments.now.paths.judged.now) written)
    (λ outcome is. (
      c.ask_files-answer.result,
      c.in_ok-plain.plain,
      members,
      (
        c.tells_reasons.result,
        c.tells_reasons.ensures,
        c.ask_files-answer.ensures.said at known,
      ),
      c.in_ok-plain.ensures,
      c.in_ok-members.ensures.members (shelved_at at c.args.arguments.now.paths) (c.ask_files-answer.ensures.texts at known),
      is,
    ))
    c.outcome_in.ensures
