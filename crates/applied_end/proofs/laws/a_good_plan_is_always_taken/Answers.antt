use Rattle.applied_end.proofs.EndLemmas.{good_plan_is_taken}
use Rattle.applied_end.proofs.laws.a_good_plan_is_always_taken.Goals as goal

pub returns : goal.returns
returns c = good_plan_is_taken
