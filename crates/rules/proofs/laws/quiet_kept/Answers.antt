use Rattle.rules.proofs.QuietLemmas.{quiet_kept}
use Rattle.rules.proofs.laws.quiet_kept.Goals as goal

pub returns : goal.returns
returns c = quiet_kept
