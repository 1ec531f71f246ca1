use Rattle.rules.specs.VersionFrontLaws.{pieces_are_fronts}
use Rattle.rules.proofs.version_order.pieces_are_fronts.Goals as goal

pub returns : goal.returns
returns c = pieces_are_fronts
