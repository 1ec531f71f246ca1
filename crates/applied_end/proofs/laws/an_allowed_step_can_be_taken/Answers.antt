use Rattle.applied_end.proofs.StepLemmas.{allowed_is_applicable}
use Rattle.applied_end.proofs.laws.an_allowed_step_can_be_taken.Goals as goal

pub returns : goal.returns
returns c = allowed_is_applicable
