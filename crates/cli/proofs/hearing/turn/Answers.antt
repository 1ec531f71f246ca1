-- How the conversation ends at each thing that is heard.
use Rattle.std.proofs.Common.{◌≡◌, List, refl, subst, ℕ}
use Rattle.conversation.proofs.ConversationLemmas.{ends_last, ends_long, ends_still, ends_unsaid, ends_whole}
use Rattle.conversation.specs.Turn.{HasReply}
use Rattle.conversation.specs.declared.ended.Ended.TheVariants as ended
use Rattle.conversation.specs.Stream.{written_on}
use Rattle.text_lines.specs.Lines.{HasHeard, left_of}
use Rattle.text_lines.specs.declared.lines.Heard.{Heard}
use Rattle.cli.specs.Batch.{question_bytes}
use Rattle.cli.specs.Heard.{IsReplyOver}
use Rattle.cli.proofs.hearing.turn.Goals as goal

pub returns-in-Ok-Line-clause-turned : goal.returns-in-Ok-Line-clause-turned
returns-in-Ok-Line-clause-turned g c = ends_unsaid (IsReplyOver c.args.before.now c.args.limit) question_bytes
    (left_of g.T.Source.left c.args.talk.now.lines) (written_on g.W.Write.contents c.args.talk.now.out.now) (written_on g.W.Write.contents c.reply_on.new.out)
    c.in-Err.ended c.in-Err.ensures

pub returns-in-Ok-reply_on-clause-turned : goal.returns-in-Ok-reply_on-clause-turned
returns-in-Ok-reply_on-clause-turned g c =
    let Replies = IsReplyOver c.args.before.now c.args.limit in
    let old = written_on g.W.Write.contents c.args.talk.now.out.now in
    let new = written_on g.W.Write.contents c.reply_on-in-Ok-Last.new.out in
    let before = left_of g.T.Source.left c.args.talk.now.lines in
    let behind = left_of g.T.Source.left c.next.new.self in
    let heard = subst (λ (h : Heard). HasHeard question_bytes before behind h) c.in-Ok-Last.field-0-is c.in-Ok-Last.ensures.heard in
    ends_last Replies question_bytes before behind old new c.in-Ok-Last.line.items heard.0 heard.1 heard.2 heard.3
    (subst (λ (line : List ℕ). HasReply Replies line old new) c.as_slice-in-Ok-Last.ensures.value c.in-Ok-reply_on.ensures)

pub returns-in-Ok-Last-clause-turned : goal.returns-in-Ok-Last-clause-turned
returns-in-Ok-Last-clause-turned g c = ends_unsaid (IsReplyOver c.args.before.now c.args.limit) question_bytes
    (left_of g.T.Source.left c.args.talk.now.lines) (written_on g.W.Write.contents c.args.talk.now.out.now)
    (written_on g.W.Write.contents c.reply_on-in-Ok-Last.new.out) c.in-Err-reply_on.ended c.in-Err-reply_on.ensures

pub returns-in-Ok-Nothing-clause-turned : goal.returns-in-Ok-Nothing-clause-turned
returns-in-Ok-Nothing-clause-turned g c =
    let before = left_of g.T.Source.left c.args.talk.now.lines in
    let behind = left_of g.T.Source.left c.next.new.self in
    let heard = subst (λ (h : Heard). HasHeard question_bytes before behind h) c.in-Ok-Nothing.field-0-is c.in-Ok-Nothing.ensures.heard in
    ends_whole (IsReplyOver c.args.before.now c.args.limit) question_bytes before (written_on g.W.Write.contents c.args.talk.now.out.now) heard.0

pub returns-in-Ok-TooLong-clause-turned : goal.returns-in-Ok-TooLong-clause-turned
returns-in-Ok-TooLong-clause-turned g c =
    let before = left_of g.T.Source.left c.args.talk.now.lines in
    let behind = left_of g.T.Source.left c.next.new.self in
    let heard = subst (λ (h : Heard). HasHeard question_bytes before behind h) c.in-Ok-TooLong.field-0-is c.in-Ok-TooLong.ensures.heard in
    ends_long (IsReplyOver c.args.before.now c.args.limit) question_bytes before (written_on g.W.Write.contents c.args.talk.now.out.now)
    (heard.0, behind, heard.1, heard.2, heard.3)

pub returns-in-Err-Unreadable-clause-turned : goal.returns-in-Err-Unreadable-clause-turned
returns-in-Err-Unreadable-clause-turned g c = ends_still (IsReplyOver c.args.before.now c.args.limit) question_bytes
    (left_of g.T.Source.left c.args.talk.now.lines) (written_on g.W.Write.contents c.args.talk.now.out.now) (written_on g.W.Write.contents c.args.talk.now.out.now)
    ended.Unread (λ e. (let wrong : ended.Unread ≡ ended.Answered = e in cc)) (λ e. (let wrong : ended.Unread ≡ ended.TooLong = e in cc))
    (λ could. refl) (λ e. absurd (let wrong : ended.Unread ≡ ended.Unwritten = e in cc))

pub returns-clause-turned : goal.returns-clause-turned
returns-clause-turned g c = ends_still (IsReplyOver c.args.before.now c.args.limit) question_bytes
    (left_of g.T.Source.left c.args.talk.now.lines) (written_on g.W.Write.contents c.args.talk.now.out.now) (written_on g.W.Write.contents c.args.talk.now.out.now)
    ended.OutOfMemory (λ e. (let wrong : ended.OutOfMemory ≡ ended.Answered = e in cc))
    (λ e. (let wrong : ended.OutOfMemory ≡ ended.TooLong = e in cc)) (λ could. refl)
    (λ e. absurd (let wrong : ended.OutOfMemory ≡ ended.Unwritten = e in cc))
