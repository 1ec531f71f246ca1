use Rattle.plain.proofs.PurgeLemmas.{purges_end_well}
use Rattle.plain.proofs.laws.purges_end_well.Goals as goal

pub returns : goal.returns
returns c = purges_end_well
