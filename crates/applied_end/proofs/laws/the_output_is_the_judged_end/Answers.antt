use Rattle.applied_end.proofs.EndLemmas.{output_is_judged_end}
use Rattle.applied_end.proofs.laws.the_output_is_the_judged_end.Goals as goal

pub returns : goal.returns
returns c = output_is_judged_end
