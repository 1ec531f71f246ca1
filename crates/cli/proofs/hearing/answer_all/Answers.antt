-- The conversation goes on line by line, and what is heard and said at its end stands behind the rest.
use Rattle.std.proofs.Common.{◌∙◌, refl}
use Rattle.conversation.proofs.ConversationLemmas.{ends_behind, so_far_more, so_far_none}
use Rattle.conversation.specs.Stream.{written_on}
use Rattle.text_lines.specs.Lines.{left_of}
use Rattle.cli.specs.Batch.{question_bytes}
use Rattle.cli.specs.Heard.{IsReplyOver}
use Rattle.cli.proofs.hearing.answer_all.Goals as goal

pub loop-number-init : goal.loop-number-init
loop-number-init g c = (
  so_far_none (IsReplyOver c.args.before.now c.args.limit) (left_of g.T.Source.left c.args.talk.now.lines)
      (written_on g.W.Write.contents c.args.talk.now.out.now),
  refl,
)

pub loop-number-preserved : goal.loop-number-preserved
loop-number-preserved g c = (
  so_far_more (IsReplyOver c.args.before.now c.args.limit) c.loop-number.invariant.0 c.in_default.ensures.turned,
  c.turn.ensures.held ∙ c.loop-number.invariant.1,
)

pub returns-in-Some-clause-answered : goal.returns-in-Some-clause-answered
returns-in-Some-clause-answered g c = ends_behind (IsReplyOver c.args.before.now c.args.limit) question_bytes
    (left_of g.T.Source.left c.args.talk.now.lines) (left_of g.T.Source.left c.loop-number.talk.lines)
    (written_on g.W.Write.contents c.args.talk.now.out.now) (written_on g.W.Write.contents c.loop-number.talk.out.now) (written_on g.W.Write.contents c.turn.new.talk.out.now)
    c.in-Some.ended c.loop-number.invariant.0 c.in-Some.ensures.turned
