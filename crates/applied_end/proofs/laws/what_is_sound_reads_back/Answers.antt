use Rattle.applied_end.proofs.SoundLemmas.{sound_reads_back}
use Rattle.applied_end.proofs.laws.what_is_sound_reads_back.Goals as goal

pub returns : goal.returns
returns c = sound_reads_back
