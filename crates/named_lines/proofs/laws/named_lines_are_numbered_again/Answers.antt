use Rattle.named_lines.proofs.RoundLemmas.{refutation_again}
use Rattle.named_lines.proofs.laws.named_lines_are_numbered_again.Goals as goal

pub returns : goal.returns
returns c = refutation_again
