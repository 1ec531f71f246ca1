use Rattle.relation_text.proofs.ShapeLemmas.{live_front}
use Rattle.relation_text.proofs.shape.every_other_place_has_a_completion.Goals as goal

pub returns : goal.returns
returns c = live_front
