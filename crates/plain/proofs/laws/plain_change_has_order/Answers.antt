use Rattle.plain.proofs.HasOrderLemmas.{plain_change_has_order}
use Rattle.plain.proofs.laws.plain_change_has_order.Goals as goal

pub returns : goal.returns
returns c = plain_change_has_order
