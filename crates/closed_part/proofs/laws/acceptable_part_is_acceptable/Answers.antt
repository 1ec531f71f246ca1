use Rattle.closed_part.proofs.FittingLemmas.{acceptable_part_is_acceptable}
use Rattle.closed_part.proofs.laws.acceptable_part_is_acceptable.Goals as goal

pub returns : goal.returns
returns c = acceptable_part_is_acceptable
