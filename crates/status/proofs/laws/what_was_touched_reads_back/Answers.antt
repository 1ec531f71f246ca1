use Rattle.status.proofs.ReadBackLemmas.{touched_reads_back}
use Rattle.status.proofs.laws.what_was_touched_reads_back.Goals as goal

pub returns : goal.returns
returns c = touched_reads_back
