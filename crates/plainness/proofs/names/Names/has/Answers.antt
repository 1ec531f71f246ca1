-- The table tells whether it has a name.
use Rattle.plainness.proofs.NameLemmas.{table_tells}
use Rattle.plainness.proofs.names.Names.has.Goals as goal

pub returns : goal.returns
returns c = table_tells c.args.name.now c.self.inside.names.keys c.args.self.now c.contains.result c.contains.ensures c.self.view_is
