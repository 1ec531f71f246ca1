use Rattle.applied_end.proofs.StepLemmas.{stored_records}
use Rattle.applied_end.proofs.laws.storing_keeps_records.Goals as goal

pub returns : goal.returns
returns c = stored_records
