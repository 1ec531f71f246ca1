use Rattle.plantext.proofs.WrittenLemmas.{step_read_is_written}
use Rattle.plantext.proofs.laws.a_step_is_its_line.Goals as goal

pub returns : goal.returns
returns c = step_read_is_written
