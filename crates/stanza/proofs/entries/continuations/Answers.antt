use Rattle.stanza.proofs.FieldsLemmas.{PassesContinuations-more, CutsContinuations-all}
use Rattle.std.proofs.Common.{sym}
use Rattle.stanza.proofs.entries.continuations.Goals as goal

pub loop-rest-preserved : goal.loop-rest-preserved
loop-rest-preserved c =
    PassesContinuations-more c.args.text.now c.loop-rest.rest.now c.cut_line.result.0.now c.cut_line.result.1.now c.loop-rest.len c.loop-rest.lines c.loop-rest.invariant c.cut_line.ensures (sym c.loop-rest-test.ensures)

pub returns : goal.returns
returns c = CutsContinuations-all c.args.text.now c.loop-rest.rest.now c.loop-rest.len c.loop-rest.lines c.loop-rest.invariant (sym c.loop-rest-test.ensures)
