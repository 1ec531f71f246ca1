-- The law is a lemma about the definitions.
use Rattle.stanza.proofs.FileLemmas.{items_of-IsReading}
use Rattle.stanza.proofs.laws.items_are_a_reading.Goals as goal

pub returns : goal.returns
returns c = items_of-IsReading
