use Rattle.cli_engine.proofs.AnswerLemmas.{good_plan_is_answered}
use Rattle.cli_engine.proofs.laws.a_good_plan_is_answered_with_yes.Goals as goal

pub returns : goal.returns
returns c = good_plan_is_answered
