-- What the chain makes of each place.
use Rattle.std.proofs.Common.{rules}
use Rattle.std.proofs.lemmas.Iterator.{YieldsList-from_map, YieldsList-from_slice, items_from_collect}
use Rattle.candidates.specs.Place.{Place}
use Rattle.candidates.proofs.order.stanzas_of.Goals as goal

pub returns : goal.returns
returns c = items_from_collect c.collect.result c.collect.ensures.ran
    (YieldsList-from_map _ (λ (place : Place). place.listed) (YieldsList-from_slice c.args.places.now cc) c.map.ensures.closure (λ x r q k. search rules))
