use Rattle.rules.proofs.GroupLemmas.{indivisible_by_others}
use Rattle.rules.proofs.laws.indivisible_by_others.Goals as goal

pub returns : goal.returns
returns c = indivisible_by_others
