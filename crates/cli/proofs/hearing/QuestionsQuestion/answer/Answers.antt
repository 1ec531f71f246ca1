-- What is replied by whatever texts are read so is replied by the texts of the shelf.
use Rattle.cli.specs.Batch.{IsReplyToLine, question_bytes}
use Rattle.cli.specs.Heard.{IsReplyOver}
use Rattle.conversation.proofs.ConversationLemmas.{answered_so}
use Rattle.inputs.specs.Texts.{texts_of}
use Rattle.conversation.specs.Stream.{written_on}
use Rattle.text_lines.specs.Lines.{left_of}
use Rattle.cli.proofs.hearing.QuestionsQuestion.answer.Goals as goal

pub returns-clause-said : goal.returns-clause-said
returns-clause-said g c = λ at known read.
    let limit = c.args.self.now.limit in
    answered_so question_bytes (IsReplyOver c.args.before.now limit)
    (IsReplyToLine (texts_of c.args.before.now.settings.now at) limit)
    (λ line reply is. is (texts_of c.args.before.now.settings.now at) read)
    (left_of g.T.Source.left c.args.talk.now.lines) (written_on g.W.Write.contents c.args.talk.now.out.now)
    (written_on g.W.Write.contents c.answer_all.new.talk.out.now) c.answer_all.result c.answer_all.ensures.answered

pub returns-clause-kept : goal.returns-clause-kept
returns-clause-kept g c =
    let answered = c.answer_all.ensures.answered in ((answered.0, answered.2), c.answer_all.ensures.held)
