-- The places so far, and those of the indices that are left, are the places of all.
use Rattle.std.proofs.Common.{◌≡◌, ◌++◌, drop}
use Rattle.candidates.specs.Inputs.{indices_of}
use Rattle.candidates.specs.Place.{places_of}
use Rattle.candidates.proofs.place.places_of.Given as goal

abbrev pub invariant-loop-index : goal.invariant-loop-index
invariant-loop-index l =
    l.places.items ++ places_of (indices_of (drop l.index-index l.indices)) ≡ places_of (indices_of l.indices)
