-- The set tells which names it has.
use Rattle.plancheck_group.proofs.NameSetLemmas.{found_in_set}
use Rattle.plancheck_group.proofs.part.NameSet.has.Goals as goal

pub returns : goal.returns
returns c = found_in_set c.args.name.now c.self.inside.names.keys c.args.self.now c.contains.result c.contains.ensures c.self.view_is
