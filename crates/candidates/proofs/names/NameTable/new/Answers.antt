-- The records and the places in order.
use Rattle.std.proofs.Common.{List, subst}
use Rattle.candidates.specs.Inputs.{indices_of}
use Rattle.candidates.specs.Place.{Place, stanzas_of}
use Rattle.candidates.specs.Stanza.{IsOrdered}
use Rattle.candidates.proofs.NameSplit.{AreNames-from}
use Rattle.candidates.proofs.names.NameTable.new.Goals as goal

pub returns : goal.returns
returns c = AreNames-from c.args.start.items (indices_of c.args.indices.now) c.in_ok-known.known.items c.in_ok-places.places.items
    c.in_ok-ordered.ordered.items c.in_ok-known.ensures c.in_ok-places.ensures
    (subst (λ (places : List Place). IsOrdered (stanzas_of places) c.in_ok-ordered.ordered.items) c.as_slice.ensures.value c.in_ok-ordered.ensures)
