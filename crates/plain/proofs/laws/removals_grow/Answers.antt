use Rattle.plain.proofs.GrowLemmas.{removals_grow}
use Rattle.plain.proofs.laws.removals_grow.Goals as goal

pub returns : goal.returns
returns c = removals_grow
