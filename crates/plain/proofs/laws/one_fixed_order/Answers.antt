use Rattle.plain.proofs.OneOrderLemmas.{one_fixed_order}
use Rattle.plain.proofs.laws.one_fixed_order.Goals as goal

pub returns : goal.returns
returns c = one_fixed_order
