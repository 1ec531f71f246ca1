use Rattle.inputs.proofs.MeaningLemmas.{meaning_is_not_refused}
use Rattle.inputs.proofs.laws.a_meaning_is_not_refused.Goals as goal

pub returns : goal.returns
returns c = meaning_is_not_refused
