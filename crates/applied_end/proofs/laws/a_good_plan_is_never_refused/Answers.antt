use Rattle.applied_end.proofs.EndLemmas.{good_plan_is_never_refused}
use Rattle.applied_end.proofs.laws.a_good_plan_is_never_refused.Goals as goal

pub returns : goal.returns
returns c = good_plan_is_never_refused
