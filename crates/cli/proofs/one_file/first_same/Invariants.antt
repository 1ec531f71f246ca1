use Rattle.std.proofs.Common.{◌≡◌, Some, drop, map}
use Rattle.cli.specs.Places.{AreOthers}
use Rattle.cli.specs.Files.{Files}
use Rattle.cli.proofs.one_file.first_same.Given as goal

abbrev pub invariant-loop-place : goal.invariant-loop-place
invariant-loop-place g l = (at : Files) → g.H.Host.files l.host ≡ Some at
    → (AreOthers l.path (map (λ place. place.path.now) (drop l.place-index l.places)) → AreOthers l.path (map (λ place. place.path.now) l.places))
    × (AreOthers l.path (map (λ place. place.path.now) l.places) → AreOthers l.path (map (λ place. place.path.now) (drop l.place-index l.places)))
