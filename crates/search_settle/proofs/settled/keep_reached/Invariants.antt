-- The members so far are those that are reached, and the others are as they were.
use Rattle.std.proofs.Common.{◌≡◌, ℕ, ◌<◌, ◌≤◌, length}
use Rattle.search_settle.specs.Reach.{part_of}
use Rattle.search_settle.specs.Truth.{holds}
use Rattle.search_settle.proofs.settled.keep_reached.Given as goal

abbrev pub invariant-loop-number : goal.invariant-loop-number
invariant-loop-number l = (length l.set.items ≡ length l.fn.set.items)
    × ((number : ℕ) → number < l.number → holds l.set.items number ≡ part_of (holds l.fn.set.items) (holds l.reached.marks) number)
    × ((number : ℕ) → l.number ≤ number → holds l.set.items number ≡ holds l.fn.set.items number)
