use Rattle.plain.proofs.ConfigureLemmas.{configures_keep}
use Rattle.plain.proofs.laws.configures_keep.Goals as goal

pub returns : goal.returns
returns c = configures_keep
