-- The sentences stand behind what was printed.
use Rattle.conversation.specs.Stream.{written_on}
use Rattle.outcomes.proofs.PrintingLemmas.{noted_behind}
use Rattle.outcomes.specs.Outcome.{streams_on}
use Rattle.outcomes.proofs.printing.print.Goals as goal

pub returns : goal.returns
returns g c = noted_behind c.args.outcome.now (streams_on g.W.Write.contents g.E.Write.contents c.args.out.now c.args.err.now)
    (streams_on g.W.Write.contents g.E.Write.contents c.print_outcome-status.new.out c.print_outcome-status.new.err)
    (written_on g.E.Write.contents c.note.new.err) c.print_outcome-status.result c.print_outcome-status.ensures c.note.ensures
