-- The survey is that of the names.
use Rattle.std.proofs.Common.{◌∙◌, Global, IfOk, List, Vec, ap, map, string_bytes, subst, ℕ}
use Rattle.cli.specs.Batch.{IsReplyWhere, survey_of}
use Rattle.cli.specs.Packages.{IsSaidOfSurvey}
use Rattle.command_line.specs.Asked.{Survey}
use Rattle.outcomes.specs.Survey.{AreOfSurvey, survey_text}
use Rattle.serde_json.specs.View.{view}
use Rattle.cli.proofs.reply_of_packages.reply_to_installable.Goals as goal

pub returns : goal.returns
returns c = λ texts read.
    let all_versions = c.args.all_versions in
    let without_essential = c.args.without_essential in
    subst (λ (survey : Survey). IfOk c.reply_to_survey.result (λ (reply : Vec ℕ Global).
    IsReplyWhere (view c.args.id) (IsSaidOfSurvey texts survey) survey_text AreOfSurvey reply.items))
    (c.survey_of-survey.ensures
    ∙ ap (λ (names : List (List ℕ)). survey_of names all_versions without_essential c.unwrap_or-limit.result) c.in_ok-words.ensures
    ∙ ap (λ (limit : ℕ). survey_of (map string_bytes c.args.names.now) all_versions without_essential limit) c.unwrap_or-limit.ensures)
    (c.reply_to_survey.ensures texts read)
