use Rattle.plain.proofs.RemovalLemmas.{last_removal_is_allowed}
use Rattle.plain.proofs.laws.last_removal_is_allowed.Goals as goal

pub returns : goal.returns
returns c = last_removal_is_allowed
