use Rattle.status.proofs.ReadBackLemmas.{unpacked_reads_back}
use Rattle.status.proofs.laws.what_was_unpacked_reads_back.Goals as goal

pub returns : goal.returns
returns c = unpacked_reads_back
