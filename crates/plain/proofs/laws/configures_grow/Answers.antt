use Rattle.plain.proofs.GrowLemmas.{configures_grow}
use Rattle.plain.proofs.laws.configures_grow.Goals as goal

pub returns : goal.returns
returns c = configures_grow
