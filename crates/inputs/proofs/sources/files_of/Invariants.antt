-- The files so far.
use Rattle.std.proofs.Common.{◌≡◌, Bor, List, map, take, ℕ}
use Rattle.inputs.specs.ReadAs.{files_of}
use Rattle.inputs.proofs.sources.files_of.Given as goal

abbrev pub invariant-loop-source : goal.invariant-loop-source
invariant-loop-source l = map (λ (file : Bor (List ℕ)). file.now) l.files.items ≡ files_of (take l.source-index l.sources)
