use Rattle.plain.proofs.ConfigureLemmas.{configure_leaves}
use Rattle.plain.proofs.laws.configure_leaves.Goals as goal

pub returns : goal.returns
returns c = configure_leaves
