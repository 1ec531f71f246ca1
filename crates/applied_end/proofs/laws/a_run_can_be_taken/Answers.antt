use Rattle.applied_end.proofs.RunLemmas.{run_is_taken}
use Rattle.applied_end.proofs.laws.a_run_can_be_taken.Goals as goal

pub returns : goal.returns
returns c = run_is_taken
