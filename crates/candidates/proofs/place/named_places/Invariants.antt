-- The places so far, and those of the name in the indices that are left, are the places of the name.
use Rattle.std.proofs.Common.{◌≡◌, ◌++◌, drop}
use Rattle.std.specs.List.{filter}
use Rattle.candidates.specs.Inputs.{indices_of}
use Rattle.candidates.specs.Place.{has_place_name, places_of}
use Rattle.candidates.proofs.place.named_places.Given as goal

abbrev pub invariant-loop-index : goal.invariant-loop-index
invariant-loop-index l =
    l.places.items ++ filter (has_place_name l.name) (places_of (indices_of (drop l.index-index l.indices)))
    ≡ filter (has_place_name l.name) (places_of (indices_of l.indices))
