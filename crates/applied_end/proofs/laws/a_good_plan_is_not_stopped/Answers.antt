use Rattle.applied_end.proofs.BegunLemmas.{good_plan_is_finished}
use Rattle.applied_end.proofs.laws.a_good_plan_is_not_stopped.Goals as goal

pub returns : goal.returns
returns c = good_plan_is_finished c.a_file_shows_one_history.ensures
