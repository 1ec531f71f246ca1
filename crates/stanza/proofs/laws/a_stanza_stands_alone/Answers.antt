-- The law is a lemma about the definitions.
use Rattle.stanza.proofs.AloneLemmas.{items_of-IsAlone}
use Rattle.stanza.proofs.laws.a_stanza_stands_alone.Goals as goal

pub returns : goal.returns
returns c = items_of-IsAlone
