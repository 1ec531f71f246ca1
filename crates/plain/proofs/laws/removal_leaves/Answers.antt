use Rattle.plain.proofs.RemovalLemmas.{removal_leaves}
use Rattle.plain.proofs.laws.removal_leaves.Goals as goal

pub returns : goal.returns
returns c = removal_leaves
