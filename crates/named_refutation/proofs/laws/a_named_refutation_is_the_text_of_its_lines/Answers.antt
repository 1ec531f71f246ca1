use Rattle.named_refutation.proofs.TextLemmas.{read_is_written}
use Rattle.named_refutation.proofs.laws.a_named_refutation_is_the_text_of_its_lines.Goals as goal

pub returns : goal.returns
returns c = read_is_written
