use Rattle.plain.proofs.LeastGroupLemmas.{least_group_is_there}
use Rattle.plain.proofs.laws.least_group_is_there.Goals as goal

pub returns : goal.returns
returns c = least_group_is_there
