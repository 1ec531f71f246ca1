-- The table has the names of the pairs.
use Rattle.fixed_order.proofs.SelectionLemmas.{table_done}
use Rattle.fixed_order.proofs.members.Members.of_pairs.Goals as goal

pub returns : goal.returns
returns c = table_done c.args.pairs.now c.loop-pair.members c.loop-pair.pair-index c.loop-pair-test.false c.loop-pair.invariant
