-- The text and the members of the document are those of the answers.
use Rattle.std.proofs.Common.{◌∙◌, Global, IfOk, List, Vec, subst, ℕ}
use Rattle.cli.proofs.ReplyLemmas.{reply_beside}
use Rattle.cli.specs.Batch.{with_id}
use Rattle.json_answers.specs.Document.{IsLineOf, object_with}
use Rattle.outcomes.specs.Survey.{AreOfSurvey, survey_text}
use Rattle.serde_json.specs.View.{members_view, view}
use Rattle.cli.proofs.reply_of_packages.reply_of_surveyed.Goals as goal

pub returns : goal.returns
returns c =
    let id = view c.args.id in
    let members = members_view c.in_ok-members.members.map.entries in
    reply_beside id (survey_text c.args.surveyed.now) (AreOfSurvey c.args.surveyed.now) members c.reply_of.result c.in_ok-members.ensures
    (subst (λ (text : List ℕ). IfOk c.reply_of.result (λ (reply : Vec ℕ Global). IsLineOf (object_with text (with_id id members)) reply.items))
    (c.as_slice.ensures.value ∙ c.in_ok-text.ensures) c.reply_of.ensures)
