-- State by state.
use Rattle.search_settle.proofs.StateLemmas.{records_are_present}
use Rattle.search_settle.proofs.laws.standing_records_are_present.Goals as goal

pub returns : goal.returns
returns c = λ start u same. records_are_present start u same
