-- The reply is that of the candidates by the texts.
use Rattle.std.proofs.Common.{List, Ok, Option, map, subst, sym}
use Rattle.candidates.specs.Offer.{Offer}
use Rattle.cli.proofs.ResultLemmas.{if_ok}
use Rattle.cli.specs.Batch.{IsReplyOf, IsReplyWhere}
use Rattle.cli.specs.Members.{AreOfCandidates}
use Rattle.cli_engine.specs.Answer.{IsSaidOfNames}
use Rattle.outcomes.specs.Answer.{candidate_lines}
use Rattle.serde_json.specs.View.{view}
use Rattle.cli.proofs.reply.reply_to_names.Goals as goal

pub returns : goal.returns
returns c = λ texts read.
    let id = view c.args.id in
    let names = map (λ name. name.now) c.args.names.now in
    let candidates = c.as_slice.result.now in
    if_ok c.reply_of_names.result (λ reply. IsReplyOf id (candidate_lines names candidates) (AreOfCandidates names candidates) reply.items)
    (λ reply. IsReplyWhere {A = List (Option Offer)} id (IsSaidOfNames texts names) (candidate_lines names) (AreOfCandidates names) reply.items)
    (λ reply is. (
      Ok candidates,
      subst (λ (candidates : List (Option Offer)). IsSaidOfNames texts names (Ok candidates)) (sym c.as_slice.ensures) (c.in_ok-candidates.ensures.said texts read),
      is,
    )) c.reply_of_names.ensures
