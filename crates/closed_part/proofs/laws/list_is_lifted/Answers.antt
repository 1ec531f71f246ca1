use Rattle.closed_part.proofs.ListLemmas.{list_is_lifted}
use Rattle.closed_part.proofs.laws.list_is_lifted.Goals as goal

pub returns : goal.returns
returns c = list_is_lifted
