-- The law is a lemma about the definitions.
use Rattle.status_text.proofs.EntryLemmas.{unpacked-stanza}
use Rattle.status_text.proofs.laws.unpacked_fields_are_writable.Goals as goal

pub returns : goal.returns
returns c = unpacked-stanza
