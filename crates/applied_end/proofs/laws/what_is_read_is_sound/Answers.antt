use Rattle.applied_end.proofs.SoundLemmas.{read_is_sound}
use Rattle.applied_end.proofs.laws.what_is_read_is_sound.Goals as goal

pub returns : goal.returns
returns c = read_is_sound
