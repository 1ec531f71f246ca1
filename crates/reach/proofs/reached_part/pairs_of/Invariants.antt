-- The pairs of the numbers so far.
use Rattle.std.proofs.Common.{◌≡◌, Bor, Some, map, take}
use Rattle.std.specs.List.{AllZip}
use Rattle.refutation.specs.Clause.{item_at}
use Rattle.rules.specs.Universe.{Pair}
use Rattle.reach.proofs.reached_part.pairs_of.Given as goal

abbrev pub invariant-loop-number : goal.invariant-loop-number
invariant-loop-number l = AllZip (λ number pair. item_at l.universe.pairs number ≡ Some pair)
    (take l.number-index l.numbers) (map (λ (pair : Bor Pair). pair.now) l.pairs.items)
