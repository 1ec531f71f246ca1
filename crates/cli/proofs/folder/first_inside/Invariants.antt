use Rattle.std.proofs.Common.{◌≡◌, Some, drop, map}
use Rattle.cli.specs.Files.{Files}
use Rattle.cli.specs.Places.{AreOutside}
use Rattle.cli.proofs.folder.first_inside.Given as goal

abbrev pub invariant-loop-place : goal.invariant-loop-place
invariant-loop-place g l = (at : Files) → g.H.Host.files l.host ≡ Some at
    → (AreOutside l.folder (map (λ place. place.path.now) (drop l.place-index l.places)) → AreOutside l.folder (map (λ place. place.path.now) l.places))
    × (AreOutside l.folder (map (λ place. place.path.now) l.places) → AreOutside l.folder (map (λ place. place.path.now) (drop l.place-index l.places)))
