use Rattle.stanza.proofs.StreamLemmas.{text-read}
use Rattle.stanza.proofs.laws.what_is_read_of_a_text_is_its_items.Goals as goal

pub returns : goal.returns
returns c = text-read
