-- The text of the fields is one stanza, and reads as that.
use Rattle.status_text.specs.Spelling.{fields_text}
use Rattle.status_text.proofs.StanzaLemmas.{HasFields-written}
use Rattle.status_text.proofs.ReadLemmas.{ReadsAs-one}
use Rattle.status_text.proofs.laws.fields_read_back.Goals as goal

pub returns : goal.returns
returns c fields can =
    ReadsAs-one fields (fields_text fields) (record { has = HasFields-written fields can.each; some = can.some; names = can.names })
