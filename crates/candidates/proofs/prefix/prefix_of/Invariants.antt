-- The first bytes so far.
use Rattle.std.proofs.Common.{◌≡◌, take}
use Rattle.candidates.specs.Prefix.{padded}
use Rattle.candidates.proofs.prefix.prefix_of.Given as goal

abbrev pub invariant-loop-place : goal.invariant-loop-place
invariant-loop-place l = l.prefix ≡ padded 16 (take l.place l.name)
