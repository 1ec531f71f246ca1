use Rattle.plain.proofs.ClashLemmas.{start_is_quiet}
use Rattle.plain.proofs.laws.start_is_quiet.Goals as goal

pub returns : goal.returns
returns c = start_is_quiet
