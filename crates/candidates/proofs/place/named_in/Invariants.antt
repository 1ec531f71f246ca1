-- The places so far, and those of the name among the stanzas that are left, are the places of the name.
use Rattle.std.proofs.Common.{◌≡◌, ◌++◌, drop, map}
use Rattle.std.specs.List.{filter}
use Rattle.candidates.specs.Place.{has_place_name, place_at, places_in}
use Rattle.candidates.proofs.place.named_in.Given as goal

abbrev pub invariant-loop-entry : goal.invariant-loop-entry
invariant-loop-entry l =
    l.places.items ++ filter (has_place_name l.name) (map (place_at l.index.index.release) (drop l.entry-index l.index.index.listed))
    ≡ filter (has_place_name l.name) (places_in l.index.index)
