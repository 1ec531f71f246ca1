use Rattle.rules.proofs.UniverseLemmas.{one_universe}
use Rattle.rules.proofs.laws.one_universe.Goals as goal

pub returns : goal.returns
returns c = one_universe
