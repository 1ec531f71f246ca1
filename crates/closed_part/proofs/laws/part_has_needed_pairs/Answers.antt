use Rattle.closed_part.proofs.NeededLemmas.{part_has_needed_pairs}
use Rattle.closed_part.proofs.laws.part_has_needed_pairs.Goals as goal

pub returns : goal.returns
returns c = part_has_needed_pairs
