use Rattle.inputs.proofs.MeaningLemmas.{one_meaning}
use Rattle.inputs.proofs.laws.texts_have_one_meaning.Goals as goal

pub returns : goal.returns
returns c = one_meaning
