use Rattle.applied_end.proofs.RunLemmas.{start_is_read}
use Rattle.applied_end.proofs.laws.the_start_is_what_was_read.Goals as goal

pub returns : goal.returns
returns c = start_is_read
