use Rattle.never_both.proofs.BothLemmas.{never_both}
use Rattle.never_both.proofs.laws.never_both_yes.Goals as goal

pub returns : goal.returns
returns c = never_both
