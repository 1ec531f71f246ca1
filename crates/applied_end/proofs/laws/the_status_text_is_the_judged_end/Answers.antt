use Rattle.applied_end.proofs.EndLemmas.{carried_out_is_judged_end}
use Rattle.applied_end.proofs.laws.the_status_text_is_the_judged_end.Goals as goal

pub returns : goal.returns
returns c = carried_out_is_judged_end
