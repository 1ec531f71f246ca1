-- The places of the offers so far.
use Rattle.std.proofs.Common.{◌≡◌, map, take}
use Rattle.providers.proofs.places.places_of.Given as goal

abbrev pub invariant-loop-offer : goal.invariant-loop-offer
invariant-loop-offer l = l.places.items ≡ map (λ offer. offer.place) (take l.offer-index l.offers)
