use Rattle.refutation_text.proofs.ReadLemmas.{read_is_written}
use Rattle.refutation_text.proofs.laws.a_refutation_is_the_text_of_its_lines.Goals as goal

pub returns : goal.returns
returns c = read_is_written
