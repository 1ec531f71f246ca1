use Rattle.plain.proofs.LeastGroupLemmas.{walk_begins}
use Rattle.plain.proofs.laws.walk_begins.Goals as goal

pub returns : goal.returns
returns c = walk_begins
