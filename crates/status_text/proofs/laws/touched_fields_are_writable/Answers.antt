-- The law is a lemma about the definitions.
use Rattle.status_text.proofs.EntryLemmas.{touched-stanza}
use Rattle.status_text.proofs.laws.touched_fields_are_writable.Goals as goal

pub returns : goal.returns
returns c = touched-stanza
