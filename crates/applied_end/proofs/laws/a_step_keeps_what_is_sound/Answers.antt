use Rattle.applied_end.proofs.SoundLemmas.{step_keeps_sound}
use Rattle.applied_end.proofs.laws.a_step_keeps_what_is_sound.Goals as goal

pub returns : goal.returns
returns c = step_keeps_sound
