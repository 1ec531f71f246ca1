use Rattle.status.proofs.LeftLemmas.{entries_are_written}
use Rattle.status.proofs.laws.entries_are_written.Goals as goal

pub returns : goal.returns
returns c = entries_are_written
