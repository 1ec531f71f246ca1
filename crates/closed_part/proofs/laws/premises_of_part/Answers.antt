use Rattle.closed_part.proofs.PremiseLemmas.{premises_of_part}
use Rattle.closed_part.proofs.laws.premises_of_part.Goals as goal

pub returns : goal.returns
returns c = premises_of_part
