-- All clauses stay true, and each round brings nearer.
use Rattle.std.proofs.Common.{◌≡◌, ◌+◌, length}
use Rattle.search_settle.specs.Moves.{distance}
use Rattle.search_settle.specs.Truth.{AreTrue, holds}
use Rattle.search_settle.proofs.settled.settle_set.Given as goal

abbrev pub invariant-rounds : goal.invariant-rounds
invariant-rounds l = (length l.set.items ≡ l.given.numbers + 1) × AreTrue (holds l.set.items) l.given.clauses

abbrev pub decreases-rounds : goal.decreases-rounds
decreases-rounds l = distance l.known l.given.numbers (holds l.set.items)
