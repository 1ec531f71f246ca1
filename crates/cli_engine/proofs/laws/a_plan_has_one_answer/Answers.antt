use Rattle.cli_engine.proofs.AnswerLemmas.{one_answer}
use Rattle.cli_engine.proofs.laws.a_plan_has_one_answer.Goals as goal

pub returns : goal.returns
returns c = one_answer
