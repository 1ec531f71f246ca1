use Rattle.applied_end.proofs.RunLemmas.{leads_keeps_sound}
use Rattle.applied_end.proofs.laws.steps_keep_what_is_sound.Goals as goal

pub returns : goal.returns
returns c = leads_keeps_sound
