-- The places so far, and those of the stanzas that are left, are the places of all.
use Rattle.std.proofs.Common.{◌≡◌, ◌++◌, drop, map}
use Rattle.candidates.specs.Place.{place_at, places_in}
use Rattle.candidates.proofs.place.places_in.Given as goal

abbrev pub invariant-loop-entry : goal.invariant-loop-entry
invariant-loop-entry l =
    l.places.items ++ map (place_at l.index.index.release) (drop l.entry-index l.index.index.listed) ≡ places_in l.index.index
