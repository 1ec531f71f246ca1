-- The table has the names that goals are to purge.
use Rattle.plainness.proofs.NameLemmas as names
use Rattle.plainness.proofs.names.Names.of_purges.Goals as goal

pub returns : goal.returns
returns c = names.of_purges c.args.goals.now c.in_ok-names.names c.in_ok-names.ensures
