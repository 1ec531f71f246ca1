use Rattle.written_refutation.proofs.VerdictLemmas.{named_is_accepted}
use Rattle.written_refutation.proofs.laws.named_lines_are_accepted.Goals as goal

pub returns : goal.returns
returns c = named_is_accepted
