-- What is printed behind the replies, behind a refusal, and where memory was wanting.
use Rattle.std.proofs.Common.{List, Option, codes, inr, refl, subst, ℕ}
use Rattle.cli.proofs.BatchLemmas.{IsToldSo, told_of_refusal, told_of_replies}
use Rattle.cli.specs.Calls.{texts_at}
use Rattle.cli.specs.Files.{Files}
use Rattle.inputs.specs.Texts.{Texts}
use Rattle.conversation.specs.Stream.{written_on}
use Rattle.outcomes.specs.Outcome.{streams_on}
use Rattle.outcomes.specs.declared.exit.Exit.TheVariants as exit
use Rattle.outcomes.specs.declared.outcome.Outcome.TheVariants as outcome
use Rattle.text_lines.specs.Lines.{left_of}
use Rattle.cli.proofs.batch.status_of_text.Goals as goal

pub returns-in-Ok-answer_lines-clause-printed : goal.returns-in-Ok-answer_lines-clause-printed
returns-in-Ok-answer_lines-clause-printed g c =
    let texts : Files → Texts = λ at. texts_at at c.args.arguments.now in
    let files = g.H.Host.files c.args.host.now in
    let old = streams_on g.W.Write.contents g.E.Write.contents c.args.out.now c.args.err.now in
    let new = streams_on g.W.Write.contents g.E.Write.contents c.answer_lines.new.out c.print_ended.new.err in
    let left = left_of g.H.Text.Source.left c.in-Ok.lines in
    let kept = c.in-Ok-answer_lines.ensures.kept in
    subst (λ (l : Option (List ℕ)). IsToldSo texts c.args.limit l files old new c.print_ended.result) c.in-Ok.ensures.left
    (told_of_replies texts c.args.limit left files old new c.in-Ok-answer_lines.ended c.print_ended.result
    (λ at known. c.in-Ok-answer_lines.ensures.said at known) kept.0 kept.1 c.print_ended.ensures.status
    c.print_ended.ensures.said)

pub returns-in-Err-answer_lines-clause-printed : goal.returns-in-Err-answer_lines-clause-printed
returns-in-Err-answer_lines-clause-printed g c =
    let texts : Files → Texts = λ at. texts_at at c.args.arguments.now in
    let printed = c.print_refusal.ensures in
    told_of_refusal texts c.args.limit (g.H.Text.Source.left c.args.text) (g.H.Host.files c.args.host.now) (written_on g.W.Write.contents c.args.out.now)
    (written_on g.W.Write.contents c.answer_lines.new.out) (written_on g.E.Write.contents c.args.err.now)
    (streams_on g.W.Write.contents g.E.Write.contents c.print_refusal.new.out c.print_refusal.new.err) c.in-Err-answer_lines.refusal c.print_refusal.result
    (λ at known. c.in-Err-answer_lines.ensures.said at known) c.in-Err-answer_lines.ensures.kept printed.0 printed.1 printed.2

pub returns-in-Err-clause-printed : goal.returns-in-Err-clause-printed
returns-in-Err-clause-printed g c = (
  outcome.Complaint (codes "debplan: memory: E1 OutOfMemory\n") exit.Device,
  inr refl,
  (c.refuse_for_memory.ensures.status, refl, c.refuse_for_memory.ensures.said),
)
