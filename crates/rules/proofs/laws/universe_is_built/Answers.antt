use Rattle.rules.proofs.VerdictLemmas.{universe_is_built}
use Rattle.rules.proofs.laws.universe_is_built.Goals as goal

pub returns : goal.returns
returns c = universe_is_built
