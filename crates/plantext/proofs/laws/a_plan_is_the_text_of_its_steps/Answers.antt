use Rattle.plantext.proofs.WrittenLemmas.{read_is_written}
use Rattle.plantext.proofs.laws.a_plan_is_the_text_of_its_steps.Goals as goal

pub returns : goal.returns
returns c = read_is_written
