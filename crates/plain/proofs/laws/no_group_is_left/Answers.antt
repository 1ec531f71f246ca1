use Rattle.plain.proofs.LeastGroupLemmas.{no_group_is_left}
use Rattle.plain.proofs.laws.no_group_is_left.Goals as goal

pub returns : goal.returns
returns c = no_group_is_left
