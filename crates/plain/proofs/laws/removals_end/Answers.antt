use Rattle.plain.proofs.GrowLemmas.{removals_end}
use Rattle.plain.proofs.laws.removals_end.Goals as goal

pub returns : goal.returns
returns c = removals_end
