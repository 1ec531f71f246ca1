use Rattle.plain.proofs.LeastGroupLemmas.{walk_keeps}
use Rattle.plain.proofs.laws.walk_keeps.Goals as goal

pub returns : goal.returns
returns c = walk_keeps
