-- The questions are the text of standard input, which was opened.
use Rattle.std.proofs.Common.{codes, inl, inr, refl}
use Rattle.cli.proofs.BatchLemmas.{opened_told}
use Rattle.cli.specs.Calls.{texts_at}
use Rattle.outcomes.specs.Outcome.{streams_on}
use Rattle.outcomes.specs.declared.exit.Exit.TheVariants as exit
use Rattle.outcomes.specs.declared.outcome.Outcome.TheVariants as outcome
use Rattle.cli.proofs.batch.status_of_batch.Goals as goal

pub returns-in-Ok-clause-printed : goal.returns-in-Ok-clause-printed
returns-in-Ok-clause-printed g c = opened_told (λ at. texts_at at c.args.arguments.now) c.args.limit (g.H.Text.Source.left c.in-Ok.text)
    (g.H.Host.files c.args.host.now) (g.H.Host.files c.open.new.self) (codes "-") (streams_on g.W.Write.contents g.E.Write.contents c.args.out.now c.args.err.now)
    (streams_on g.W.Write.contents g.E.Write.contents c.status_of_text.new.out c.status_of_text.new.err) c.status_of_text.result c.in-Ok.ensures.same
    (λ at known. c.in-Ok.ensures.text at known) c.status_of_text.ensures.printed

pub returns-in-Err-Unreadable-clause-printed : goal.returns-in-Err-Unreadable-clause-printed
returns-in-Err-Unreadable-clause-printed g c = (
  outcome.Complaint (codes "debplan: questions: E5 Read\n") exit.Device,
  inl (λ at known. inr (inl (c.in-Err-Unreadable.ensures.missing at known c.in-Err-Unreadable.field-0-is, refl))),
  (c.print_ended.ensures.status, refl, c.print_ended.ensures.said),
)

pub returns-in-Err-OutOfMemory-clause-printed : goal.returns-in-Err-OutOfMemory-clause-printed
returns-in-Err-OutOfMemory-clause-printed g c = (
  outcome.Complaint (codes "debplan: memory: E1 OutOfMemory\n") exit.Device,
  inr refl,
  (c.refuse_for_memory.ensures.status, refl, c.refuse_for_memory.ensures.said),
)
