use Rattle.plain.proofs.GrowLemmas.{configures_end}
use Rattle.plain.proofs.laws.configures_end.Goals as goal

pub returns : goal.returns
returns c = configures_end
