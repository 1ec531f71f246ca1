-- The table begins empty, and has all names at the end.
use Rattle.providers.proofs.SpanLemmas.{table_done}
use Rattle.providers.proofs.spans.spans_of.Goals as goal

pub returns : goal.returns
returns c = table_done c.args.offers.now c.loop-start.start c.loop-start.spans.entries c.loop-start-test.false c.loop-start.invariant
