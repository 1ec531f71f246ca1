use Rattle.applied_end.proofs.FetchedLemmas.{ended_reads_same}
use Rattle.applied_end.proofs.laws.a_newline_at_the_end_changes_nothing.Goals as goal

pub returns : goal.returns
returns c = ended_reads_same
