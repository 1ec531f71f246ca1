use Rattle.plain.proofs.RemovalLemmas.{removals_are_allowed}
use Rattle.plain.proofs.laws.removals_are_allowed.Goals as goal

pub returns : goal.returns
returns c = removals_are_allowed
