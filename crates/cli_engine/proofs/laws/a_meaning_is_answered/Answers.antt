use Rattle.cli_engine.proofs.RefutedLemmas.{meaning-is-answered}
use Rattle.cli_engine.proofs.laws.a_meaning_is_answered.Goals as goal

pub returns : goal.returns
returns c = meaning-is-answered
