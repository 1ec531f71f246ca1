use Rattle.plain.proofs.OrderLemmas.{plain_change_is_ordered}
use Rattle.plain.proofs.laws.plain_change_is_ordered.Goals as goal

pub returns : goal.returns
returns c = plain_change_is_ordered
