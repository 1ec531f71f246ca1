use Rattle.stanza.proofs.StreamLemmas.{text-refused}
use Rattle.stanza.proofs.laws.a_text_that_is_too_long_is_refused.Goals as goal

pub returns : goal.returns
returns c = text-refused
