-- The reply is that of what is said of the packages by the texts.
use Rattle.cli.proofs.ReplyLemmas.{replied_err, replied_ok}
use Rattle.cli.specs.Packages.{IsSaidOfSurvey}
use Rattle.command_line.specs.Asked.{survey_by}
use Rattle.outcomes.specs.Survey.{AreOfSurvey, survey_text}
use Rattle.serde_json.specs.View.{view}
use Rattle.cli.proofs.reply_of_packages.reply_to_survey.Goals as goal

pub returns-in-Ok : goal.returns-in-Ok
returns-in-Ok c = λ texts read. replied_ok (view c.args.id) (IsSaidOfSurvey texts (survey_by c.args.survey.now)) survey_text AreOfSurvey
    c.over.result c.in-Ok.surveyed c.reply_of_surveyed.result c.in-Ok.is
    (c.question_of-question.result, c.question_of-question.ensures, c.over.ensures.said texts read) c.reply_of_surveyed.ensures

pub returns-in-Err : goal.returns-in-Err
returns-in-Err c = λ texts read. replied_err (view c.args.id) (IsSaidOfSurvey texts (survey_by c.args.survey.now)) survey_text AreOfSurvey
    c.over.result c.in-Err.refusal c.reply_of_refusal.result c.in-Err.is
    (c.question_of-question.result, c.question_of-question.ensures, c.over.ensures.said texts read) c.reply_of_refusal.ensures
