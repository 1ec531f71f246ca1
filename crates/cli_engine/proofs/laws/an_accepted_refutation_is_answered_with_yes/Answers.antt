use Rattle.cli_engine.proofs.RefutedLemmas.{accepted-is-answered}
use Rattle.cli_engine.proofs.laws.an_accepted_refutation_is_answered_with_yes.Goals as goal

pub returns : goal.returns
returns c = accepted-is-answered
