-- The name's slot is taken.
use Rattle.stanza.proofs.KnownLemmas.{AreKnown-push}
use Rattle.stanza.proofs.known.Known.add.Goals as goal

pub returns : goal.returns
returns c = λ names known. AreKnown-push c.args.self.now c.add.new.self.slots names c.args.name.now c.add.ensures.slots c.add.ensures.added known
