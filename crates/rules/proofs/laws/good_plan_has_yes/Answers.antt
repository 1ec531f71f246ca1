use Rattle.rules.proofs.VerdictLemmas.{good_plan_has_yes}
use Rattle.rules.proofs.laws.good_plan_has_yes.Goals as goal

pub returns : goal.returns
returns c = good_plan_has_yes
