-- The reply is that of what is said by the texts with the request.
use Rattle.std.proofs.Common.{true}
use Rattle.cli.proofs.ReplyLemmas.{replied_err, replied_ok}
use Rattle.cli.specs.Again.{no_archives}
use Rattle.cli.specs.Members.{AreOfAnswered}
use Rattle.cli_engine.specs.Solution.{IsSaidOfRequest}
use Rattle.outcomes.specs.Answer.{solved_text}
use Rattle.inputs.specs.ReadAs.{asking}
use Rattle.serde_json.specs.View.{view}
use Rattle.cli.proofs.reply.reply_to_solve.Goals as goal

pub returns-in-Ok : goal.returns-in-Ok
returns-in-Ok c = λ texts read. replied_ok (view c.args.id) (IsSaidOfRequest (asking c.args.request.now texts) c.args.limit c.args.names_pairs true true) (solved_text)
    (AreOfAnswered no_archives) c.answer_over.result c.in-Ok.answered c.reply_of_answered.result c.in-Ok.is (c.answer_over.ensures texts read) c.reply_of_answered.ensures

pub returns : goal.returns
returns c = λ texts read. replied_err (view c.args.id) (IsSaidOfRequest (asking c.args.request.now texts) c.args.limit c.args.names_pairs true true) (solved_text)
    (AreOfAnswered no_archives) c.answer_over.result c.in-Err.refusal c.reply_of_refusal.result c.in-Err.is (c.answer_over.ensures texts read) c.reply_of_refusal.ensures
