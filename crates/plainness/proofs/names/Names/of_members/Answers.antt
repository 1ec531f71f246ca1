-- The table has the names that packages have.
use Rattle.plainness.proofs.NameLemmas as names
use Rattle.plainness.proofs.names.Names.of_members.Goals as goal

pub returns : goal.returns
returns c = names.of_members c.args.members.now c.in_ok-names.names c.in_ok-names.ensures
