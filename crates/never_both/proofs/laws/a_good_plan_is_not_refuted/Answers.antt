use Rattle.never_both.proofs.SelectionLemmas.{good_plan_is_not_refuted}
use Rattle.never_both.proofs.laws.a_good_plan_is_not_refuted.Goals as goal

pub returns : goal.returns
returns c = good_plan_is_not_refuted
