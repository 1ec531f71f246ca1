use Rattle.closed_part.proofs.PremiseLemmas.{choice_of_part}
use Rattle.closed_part.proofs.laws.choice_of_part.Goals as goal

pub returns : goal.returns
returns c = choice_of_part
