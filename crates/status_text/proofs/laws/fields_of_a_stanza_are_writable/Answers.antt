-- The law is a lemma about the stanzas of a text.
use Rattle.status_text.proofs.FoundLemmas.{AreWritable-found}
use Rattle.status_text.proofs.laws.fields_of_a_stanza_are_writable.Goals as goal

pub returns : goal.returns
returns c = AreWritable-found
