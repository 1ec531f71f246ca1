-- The pairs that were lent so far.
use Rattle.std.proofs.Common.{◌≡◌, Bor, map, take}
use Rattle.rules.specs.Universe.{Pair}
use Rattle.reach.proofs.pairs_part.lend_pairs.Given as goal

abbrev pub invariant-loop-pair : goal.invariant-loop-pair
invariant-loop-pair l = map (λ (pair : Bor Pair). pair.now) l.lent.items ≡ take l.pair-index l.pairs
