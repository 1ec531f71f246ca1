use Rattle.applied_end.proofs.RunLemmas.{one_last}
use Rattle.applied_end.proofs.laws.steps_lead_to_one_end.Goals as goal

pub returns : goal.returns
returns c = one_last
