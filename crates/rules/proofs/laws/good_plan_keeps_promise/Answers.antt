use Rattle.rules.proofs.PlanLemmas.{good_plan_keeps_promise}
use Rattle.rules.proofs.laws.good_plan_keeps_promise.Goals as goal

pub returns : goal.returns
returns c = good_plan_keeps_promise
