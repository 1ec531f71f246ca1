use Rattle.rules.specs.VersionOrderLaws.{same_version_equivalence}
use Rattle.rules.proofs.version_order.same_version_is_equivalence.Goals as goal

pub returns : goal.returns
returns c = same_version_equivalence
