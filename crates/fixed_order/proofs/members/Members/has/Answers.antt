-- The table tells which names it has.
use Rattle.fixed_order.proofs.SelectionLemmas.{found_in_table}
use Rattle.fixed_order.proofs.members.Members.has.Goals as goal

pub returns : goal.returns
returns c = found_in_table c.args.name.now c.self.inside.names.keys c.args.self.now c.contains.result c.contains.ensures c.self.view_is
