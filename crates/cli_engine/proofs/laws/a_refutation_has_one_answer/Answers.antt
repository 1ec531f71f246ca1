use Rattle.cli_engine.proofs.RefutedLemmas.{one-answer}
use Rattle.cli_engine.proofs.laws.a_refutation_has_one_answer.Goals as goal

pub returns : goal.returns
returns c = one-answer
