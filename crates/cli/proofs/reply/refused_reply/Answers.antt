-- The words are those that are given.
use Rattle.std.proofs.Common.{◌∙◌, Global, IfOk, Vec, ap, codes, subst, ℕ}
use Rattle.cli.proofs.ResultLemmas.{if_ok}
use Rattle.cli.specs.Batch.{IsRefusedIn, IsRefusedReply}
use Rattle.json_answers.specs.Document.{IsLineOf, refused_with}
use Rattle.serde_json.specs.Data.{Members, put}
use Rattle.serde_json.specs.View.{view}
use Rattle.cli.proofs.reply.refused_reply.Goals as goal

pub returns-clause-words : goal.returns-clause-words
returns-clause-words c =
    let id = view c.args.id in
    subst (λ (ms : Members). IfOk c.refused_document.result (λ (reply : Vec ℕ Global). IsLineOf (refused_with c.args.words.now ms) reply.items))
    (c.in_ok-put.ensures.ok ∙ ap (put (codes "id") id) c.new-members.ensures) c.refused_document.ensures

pub returns-clause-some : goal.returns-clause-some
returns-clause-some c =
    let id = view c.args.id in
    if_ok c.refused_document.result (λ (reply : Vec ℕ Global). IsRefusedIn id c.args.words.now reply.items)
    (λ reply. IsRefusedReply id reply.items) (λ reply is. (c.args.words.now, is))
    (subst (λ (ms : Members). IfOk c.refused_document.result (λ (reply : Vec ℕ Global). IsLineOf (refused_with c.args.words.now ms) reply.items))
    (c.in_ok-put.ensures.ok ∙ ap (put (codes "id") id) c.new-members.ensures) c.refused_document.ensures)
