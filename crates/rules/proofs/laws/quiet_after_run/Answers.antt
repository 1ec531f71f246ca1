use Rattle.rules.proofs.QuietLemmas.{quiet_after_run}
use Rattle.rules.proofs.laws.quiet_after_run.Goals as goal

pub returns : goal.returns
returns c = quiet_after_run
