use Rattle.closed_part.proofs.MinimalLemmas.{part_is_minimal}
use Rattle.closed_part.proofs.laws.part_is_minimal.Goals as goal

pub returns : goal.returns
returns c = part_is_minimal
