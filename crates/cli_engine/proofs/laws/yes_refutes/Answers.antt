use Rattle.cli_engine.proofs.RefutedLemmas.{yes-refutes}
use Rattle.cli_engine.proofs.laws.yes_refutes.Goals as goal

pub returns : goal.returns
returns c = yes-refutes
