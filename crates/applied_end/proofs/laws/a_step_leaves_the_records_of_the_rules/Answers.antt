use Rattle.applied_end.proofs.StepLemmas.{records_are_left}
use Rattle.applied_end.proofs.laws.a_step_leaves_the_records_of_the_rules.Goals as goal

pub returns : goal.returns
returns c = records_are_left
