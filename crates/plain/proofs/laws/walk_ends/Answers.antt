use Rattle.plain.proofs.LeastGroupLemmas.{walk_ends}
use Rattle.plain.proofs.laws.walk_ends.Goals as goal

pub returns : goal.returns
returns c = walk_ends
