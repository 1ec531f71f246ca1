-- The numbers so far are at rest.
use Rattle.std.proofs.Common.{ℕ, ◌≤◌, ◌<◌}
use Rattle.search_settle.specs.Moves.{IsAtRest}
use Rattle.search_settle.specs.Truth.{holds}
use Rattle.search_settle.proofs.settled.next_move.Given as goal

abbrev pub invariant-loop-number : goal.invariant-loop-number
invariant-loop-number l = (number : ℕ) → 1 ≤ number → number < l.number → IsAtRest l.given l.known (holds l.set.items) number
