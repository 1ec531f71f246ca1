use Rattle.rules.specs.VersionPieceLaws.{first_difference_decides}
use Rattle.rules.proofs.version_order.first_difference_decides.Goals as goal

pub returns : goal.returns
returns c = first_difference_decides
