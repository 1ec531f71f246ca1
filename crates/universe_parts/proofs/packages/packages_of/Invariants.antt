-- The packages of the pairs so far.
use Rattle.std.proofs.Common.{◌≡◌, take}
use Rattle.universe_parts.specs.Parts.{packages_of}
use Rattle.universe_parts.proofs.packages.packages_of.Given as goal

abbrev pub invariant-loop-pair : goal.invariant-loop-pair
invariant-loop-pair l = l.packages.items ≡ packages_of (take l.pair-index l.pairs)
