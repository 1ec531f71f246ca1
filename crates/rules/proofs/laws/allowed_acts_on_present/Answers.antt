use Rattle.rules.proofs.QuietLemmas.{allowed_acts_on_present}
use Rattle.rules.proofs.laws.allowed_acts_on_present.Goals as goal

pub returns : goal.returns
returns c = allowed_acts_on_present
