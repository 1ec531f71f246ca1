use Rattle.rules.proofs.RunLemmas.{run_or_stops}
use Rattle.rules.proofs.laws.run_or_stops.Goals as goal

pub returns : goal.returns
returns c = run_or_stops
