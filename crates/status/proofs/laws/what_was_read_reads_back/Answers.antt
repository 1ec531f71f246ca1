use Rattle.status.proofs.ReadBackLemmas.{read_reads_back}
use Rattle.status.proofs.laws.what_was_read_reads_back.Goals as goal

pub returns : goal.returns
returns c = read_reads_back
