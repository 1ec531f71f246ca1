use Rattle.cli_engine.proofs.SolvableLemmas.{meaning_is_solvable}
use Rattle.cli_engine.proofs.laws.a_meaning_is_solvable.Goals as goal

pub returns : goal.returns
returns c = meaning_is_solvable
