use Rattle.closed_part.proofs.SelectedLemmas.{part_selects_the_same}
use Rattle.closed_part.proofs.laws.part_selects_the_same.Goals as goal

pub returns : goal.returns
returns c = part_selects_the_same
