use Rattle.rules.proofs.RunLemmas.{run_goes_on}
use Rattle.rules.proofs.laws.run_goes_on.Goals as goal

pub returns : goal.returns
returns c = run_goes_on
