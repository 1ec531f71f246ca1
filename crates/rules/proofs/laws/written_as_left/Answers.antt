use Rattle.rules.proofs.EntryLemmas.{written_as_left}
use Rattle.rules.proofs.laws.written_as_left.Goals as goal

pub returns : goal.returns
returns c = written_as_left
