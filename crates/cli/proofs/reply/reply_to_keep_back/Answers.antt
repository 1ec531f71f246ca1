-- The reply is that of what is said by the texts with the request.
use Rattle.std.proofs.Common.{refl, true}
use Rattle.cli.proofs.ReplyLemmas.{read_before, replied_err, replied_ok}
use Rattle.cli.specs.Again.{no_archives}
use Rattle.cli.specs.Members.{AreOfKept}
use Rattle.keep_back.specs.KeptBack.{IsSaidOfKept}
use Rattle.outcomes.specs.Answer.{solved_text}
use Rattle.inputs.specs.ReadAs.{asking}
use Rattle.serde_json.specs.View.{view}
use Rattle.cli.proofs.reply.reply_to_keep_back.Goals as goal

pub returns-in-Ok : goal.returns-in-Ok
returns-in-Ok c = λ texts read. replied_ok (view c.args.id) (IsSaidOfKept (asking c.args.request.items texts) c.args.limit true true) (λ kept. solved_text kept.answered)
    (AreOfKept no_archives) c.keep.result c.in-Ok.kept c.reply_of_kept.result c.in-Ok.is (c.keep.ensures.said (asking c.args.request.items texts) (read_before texts c.args.before.now c.args.request.items read) refl) c.reply_of_kept.ensures

pub returns : goal.returns
returns c = λ texts read. replied_err (view c.args.id) (IsSaidOfKept (asking c.args.request.items texts) c.args.limit true true) (λ kept. solved_text kept.answered)
    (AreOfKept no_archives) c.keep.result c.in-Err.refusal c.reply_of_refusal.result c.in-Err.is (c.keep.ensures.said (asking c.args.request.items texts) (read_before texts c.args.before.now c.args.request.items read) refl) c.reply_of_refusal.ensures
