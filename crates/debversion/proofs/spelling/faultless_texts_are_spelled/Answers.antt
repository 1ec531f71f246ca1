use Rattle.debversion.proofs.SpellingLemmas.{faultless_is_spelled}
use Rattle.debversion.proofs.spelling.faultless_texts_are_spelled.Goals as goal

pub returns : goal.returns
returns c = faultless_is_spelled
