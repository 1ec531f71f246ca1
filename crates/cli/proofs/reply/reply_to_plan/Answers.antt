-- The reply is that of what is said by the texts with the request.
use Rattle.std.proofs.Common.{Some, true}
use Rattle.cli.proofs.ReplyLemmas.{replied_err, replied_ok}
use Rattle.cli.specs.Again.{no_archives}
use Rattle.cli.specs.Members.{AreOfPlan}
use Rattle.cli_engine.specs.Meaning.{IsSaid}
use Rattle.outcomes.specs.Answer.{verdict_line}
use Rattle.inputs.specs.ReadAs.{asking}
use Rattle.serde_json.specs.View.{view}
use Rattle.cli.proofs.reply.reply_to_plan.Goals as goal

pub returns-in-Ok : goal.returns-in-Ok
returns-in-Ok c = λ texts read. replied_ok (view c.args.id) (IsSaid (asking c.args.request.now texts) (Some c.args.plan.now) true) (λ judged. verdict_line judged.verdict)
    (AreOfPlan no_archives) c.answer_over.result c.in-Ok.judged c.reply_of_judged.result c.in-Ok.is (c.answer_over.ensures texts read) c.reply_of_judged.ensures

pub returns : goal.returns
returns c = λ texts read. replied_err (view c.args.id) (IsSaid (asking c.args.request.now texts) (Some c.args.plan.now) true) (λ judged. verdict_line judged.verdict)
    (AreOfPlan no_archives) c.answer_over.result c.in-Err.refusal c.reply_of_refusal.result c.in-Err.is (c.answer_over.ensures texts read) c.reply_of_refusal.ensures
