use Rattle.std.proofs.Common.{◌≡◌, ◌++◌, drop, map}
use Rattle.cli.proofs.one_file.places_of_indices.Given as goal

abbrev pub invariant-loop-file : goal.invariant-loop-file
invariant-loop-file l =
    map (λ place. place.path.now) l.places.items ++ map (λ file. file.items) (drop l.file-index l.files) ≡ map (λ file. file.items) l.files
