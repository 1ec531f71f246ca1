use Rattle.plain.proofs.UnpackLemmas.{unpacks_are_allowed}
use Rattle.plain.proofs.laws.unpacks_are_allowed.Goals as goal

pub returns : goal.returns
returns c = unpacks_are_allowed
