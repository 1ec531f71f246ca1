-- The text of each stanza is one, and they stand one behind the other.
use Rattle.status_text.proofs.ReadLemmas.{ReadsAs-all}
use Rattle.status_text.proofs.WrittenLemmas.{each-one}
use Rattle.status_text.proofs.laws.stanzas_read_back.Goals as goal

pub returns : goal.returns
returns c stanzas are = ReadsAs-all stanzas (each-one stanzas are)
