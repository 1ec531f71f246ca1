use Rattle.plain.proofs.RemovalLemmas.{removals_go_on}
use Rattle.plain.proofs.laws.removals_go_on.Goals as goal

pub returns : goal.returns
returns c = removals_go_on
