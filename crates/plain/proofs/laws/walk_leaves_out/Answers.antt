use Rattle.plain.proofs.LeastGroupLemmas.{walk_leaves_out}
use Rattle.plain.proofs.laws.walk_leaves_out.Goals as goal

pub returns : goal.returns
returns c = walk_leaves_out
