use Rattle.rules.proofs.QuietLemmas.{distinct_names_kept}
use Rattle.rules.proofs.laws.distinct_names_kept.Goals as goal

pub returns : goal.returns
returns c = distinct_names_kept
