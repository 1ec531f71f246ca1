-- The origins so far, and those of the places that are left, are those of all.
use Rattle.std.proofs.Common.{◌≡◌, ◌++◌, drop, map}
use Rattle.pins.specs.Origin.{release_origin}
use Rattle.candidates.specs.Place.{Place}
use Rattle.candidates.specs.Rated.{origins_with}
use Rattle.candidates.proofs.rated.origins_with.Given as goal

abbrev pub invariant-loop-place : goal.invariant-loop-place
invariant-loop-place l =
    l.origins.items ++ map (λ (place : Place). release_origin place.release) (drop l.place-index l.places) ≡ origins_with l.stood l.places
