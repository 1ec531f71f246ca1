use Rattle.rules.specs.VersionOrderLaws.{version_cmp-same}
use Rattle.rules.proofs.version_order.same_versions_compare_alike.Goals as goal

pub returns : goal.returns
returns c = version_cmp-same
