-- The facts of the start are those of its records.
use Rattle.search_settle.proofs.StateLemmas.{records_are_present}
use Rattle.search_settle.proofs.laws.standing_of_inputs_are_present.Goals as goal

pub returns : goal.returns
returns c = λ inputs u is. records_are_present inputs.start u is.starts
