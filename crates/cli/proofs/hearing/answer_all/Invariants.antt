-- The lines so far have their replies.
use Rattle.std.proofs.Common.{◌≡◌}
use Rattle.conversation.specs.Turn.{AreAnsweredSoFar}
use Rattle.conversation.specs.Stream.{written_on}
use Rattle.text_lines.specs.Lines.{left_of}
use Rattle.cli.specs.Heard.{IsReplyOver}
use Rattle.cli.proofs.hearing.answer_all.Given as goal

abbrev pub invariant-loop-number : goal.invariant-loop-number
invariant-loop-number g l = AreAnsweredSoFar (IsReplyOver l.before l.limit) (left_of g.T.Source.left l.fn.talk.lines)
    (left_of g.T.Source.left l.talk.lines) (written_on g.W.Write.contents l.fn.talk.out.now) (written_on g.W.Write.contents l.talk.out.now)
    × (l.talk.out.ghost_name ≡ l.fn.talk.out.ghost_name)
