-- The text and the members of the document are those of what is left, and of what was left out.
use Rattle.std.proofs.Common.{◌∙◌, Global, IfOk, List, Vec, subst, ℕ}
use Rattle.std.specs.Option.{option_copied}
use Rattle.cli.proofs.MemberLemmas.{added}
use Rattle.cli.proofs.ReplyLemmas.{nothing_again, reply_beside}
use Rattle.cli.specs.Again.{ArchiveOf, no_archives}
use Rattle.cli.specs.Batch.{with_id}
use Rattle.cli.specs.Members.{AreAddedIn, AreOfAnswered, AreOfKept, with_left}
use Rattle.command_line.specs.declared.call.Format.TheVariants as format
use Rattle.json_answers.specs.Document.{IsLineOf, object_with}
use Rattle.outcomes.specs.Answer.{solved_text}
use Rattle.serde_json.specs.View.{members_view, view}
use Rattle.cli.proofs.reply.reply_of_kept.Goals as goal

pub returns : goal.returns
returns c =
    let id = view c.args.id in
    let kept = c.args.kept in
    let old = members_view c.in_ok-members.members.map.entries in
    let new = members_view c.put_left.new.members.map.entries in
    let put : AreAddedIn format.Json (with_left kept.request kept.notes) old new =
    subst (λ (notes : List ℕ). AreAddedIn format.Json (with_left kept.request notes) old new) c.as_slice-2.ensures
    (subst (λ (request : List ℕ). AreAddedIn format.Json (with_left request c.as_slice-2.result.now) old new) c.as_slice.ensures c.in_ok-put_left.ensures) in
    reply_beside id (solved_text kept.answered) (AreOfKept no_archives kept) new c.reply_of.result
    (added no_archives format.Json kept old new
    (nothing_again (λ (archives : ArchiveOf). AreOfAnswered archives kept.answered old) c.args.settings.now c.no_texts-shelf.result.inputs
    (option_copied c.no_texts-shelf.result.judged) c.no_texts-shelf.ensures c.in_ok-members.ensures.members) put)
    (subst (λ (text : List ℕ). IfOk c.reply_of.result (λ (reply : Vec ℕ Global). IsLineOf (object_with text (with_id id new)) reply.items))
    (c.as_slice-3.ensures.value ∙ c.in_ok-text.ensures) c.reply_of.ensures)
