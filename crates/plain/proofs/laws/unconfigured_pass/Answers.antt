use Rattle.plain.proofs.ConfigureLemmas.{unconfigured_pass}
use Rattle.plain.proofs.laws.unconfigured_pass.Goals as goal

pub returns : goal.returns
returns c = unconfigured_pass
