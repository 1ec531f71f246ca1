-- All clauses stay true, and the selection is no farther.
use Rattle.std.proofs.Common.{◌≡◌, ◌≤◌, length}
use Rattle.search_settle.specs.Moves.{distance}
use Rattle.search_settle.specs.Truth.{AreTrue, holds}
use Rattle.search_settle.proofs.settled.advance_all.Given as goal

abbrev pub invariant-loop : goal.invariant-loop
invariant-loop l = (length l.set.items ≡ length l.fn.set.items) × AreTrue (holds l.set.items) l.given.clauses
    × (distance l.known l.given.numbers (holds l.set.items) ≤ distance l.known l.given.numbers (holds l.fn.set.items))
