-- The packages of the pairs so far.
use Rattle.std.proofs.Common.{◌≡◌, Bor, map, take}
use Rattle.rules.specs.Universe.{Pair}
use Rattle.universe_parts.specs.Parts.{packages_of}
use Rattle.reach.proofs.reached_part.packages_of.Given as goal

abbrev pub invariant-loop-pair : goal.invariant-loop-pair
invariant-loop-pair l = l.packages.items ≡ packages_of (map (λ (pair : Bor Pair). pair.now) (take l.pair-index l.pairs))
