-- What is known of the pairs so far is so.
use Rattle.search_settle.specs.Knowing.{IsKnownTo}
use Rattle.search_settle.proofs.pairs.known_of.Given as goal

abbrev pub invariant-loop-pair : goal.invariant-loop-pair
invariant-loop-pair l = IsKnownTo l.part l.known l.pair-index
