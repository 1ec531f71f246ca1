-- The reply is that of what is said by the texts with the request.
use Rattle.std.proofs.Common.{Some, true}
use Rattle.cli.proofs.ReplyLemmas.{replied_err, replied_ok}
use Rattle.cli.specs.Members.{AreOfRefutation}
use Rattle.cli_engine.specs.Refuted.{IsSaidOf}
use Rattle.outcomes.specs.Answer.{refutation_line}
use Rattle.inputs.specs.ReadAs.{asking}
use Rattle.serde_json.specs.View.{view}
use Rattle.cli.proofs.reply.reply_to_refutation.Goals as goal

pub returns-in-Ok : goal.returns-in-Ok
returns-in-Ok c = λ texts read. replied_ok (view c.args.id) (IsSaidOf (asking c.args.request.now texts) (Some c.args.refutation.now) true true) (λ judged. refutation_line judged.verdict)
    AreOfRefutation c.answer_over.result c.in-Ok.judged c.reply_of_lines.result c.in-Ok.is (c.answer_over.ensures texts read) c.reply_of_lines.ensures

pub returns : goal.returns
returns c = λ texts read. replied_err (view c.args.id) (IsSaidOf (asking c.args.request.now texts) (Some c.args.refutation.now) true true) (λ judged. refutation_line judged.verdict)
    AreOfRefutation c.answer_over.result c.in-Err.refusal c.reply_of_refusal.result c.in-Err.is (c.answer_over.ensures texts read) c.reply_of_refusal.ensures
