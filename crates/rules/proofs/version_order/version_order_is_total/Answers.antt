use Rattle.rules.specs.VersionOrderLaws.{version_cmp_total}
use Rattle.rules.proofs.version_order.version_order_is_total.Goals as goal

pub returns : goal.returns
returns c = version_cmp_total
