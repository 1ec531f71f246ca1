use Rattle.plain.proofs.ClashLemmas.{nothing_clashes}
use Rattle.plain.proofs.laws.nothing_clashes.Goals as goal

pub returns : goal.returns
returns c = nothing_clashes
