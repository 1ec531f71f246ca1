use Rattle.closed_part.proofs.SelectedLemmas.{part_is_acceptable}
use Rattle.closed_part.proofs.laws.part_is_acceptable.Goals as goal

pub returns : goal.returns
returns c = part_is_acceptable
