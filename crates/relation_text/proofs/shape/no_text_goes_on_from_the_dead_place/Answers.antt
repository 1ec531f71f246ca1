use Rattle.relation_text.proofs.ShapeLemmas.{dead_front}
use Rattle.relation_text.proofs.shape.no_text_goes_on_from_the_dead_place.Goals as goal

pub returns : goal.returns
returns c = dead_front
