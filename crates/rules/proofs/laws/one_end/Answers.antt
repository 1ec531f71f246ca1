use Rattle.rules.proofs.RunLemmas.{one_end}
use Rattle.rules.proofs.laws.one_end.Goals as goal

pub returns : goal.returns
returns c = one_end
