use Rattle.rules.proofs.GroupLemmas.{greatest_part}
use Rattle.rules.proofs.laws.has_greatest_part.Goals as goal

pub returns : goal.returns
returns c = greatest_part
