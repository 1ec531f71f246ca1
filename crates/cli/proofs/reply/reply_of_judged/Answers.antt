-- The text and the members of the document are those of the answer.
use Rattle.std.proofs.Common.{◌∙◌, Global, IfOk, List, Vec, subst, ℕ}
use Rattle.std.specs.Option.{option_copied}
use Rattle.cli.proofs.ReplyLemmas.{nothing_again, reply_beside}
use Rattle.cli.specs.Again.{ArchiveOf, no_archives}
use Rattle.cli.specs.Batch.{with_id}
use Rattle.cli.specs.Members.{AreOfPlan}
use Rattle.json_answers.specs.Document.{IsLineOf, object_with}
use Rattle.outcomes.specs.Answer.{verdict_line}
use Rattle.serde_json.specs.View.{members_view, view}
use Rattle.cli.proofs.reply.reply_of_judged.Goals as goal

pub returns : goal.returns
returns c =
    let id = view c.args.id in
    let members = members_view c.in_ok-members.members.map.entries in
    reply_beside id (verdict_line c.args.judged.now.verdict) (AreOfPlan no_archives c.args.judged.now) members c.reply_of.result
    (nothing_again (λ (archives : ArchiveOf). AreOfPlan archives c.args.judged.now members) c.args.settings.now c.no_texts-shelf.result.inputs
    (option_copied c.no_texts-shelf.result.judged) c.no_texts-shelf.ensures c.in_ok-members.ensures.members)
    (subst (λ (text : List ℕ). IfOk c.reply_of.result (λ (reply : Vec ℕ Global). IsLineOf (object_with text (with_id id members)) reply.items))
    (c.as_slice.ensures.value ∙ c.in_ok-text.ensures) c.reply_of.ensures)
