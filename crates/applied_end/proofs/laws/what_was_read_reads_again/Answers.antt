use Rattle.applied_end.proofs.SoundLemmas.{read_reads_again}
use Rattle.applied_end.proofs.laws.what_was_read_reads_again.Goals as goal

pub returns : goal.returns
returns c = read_reads_again
