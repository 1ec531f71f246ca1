-- The members so far are reached.
use Rattle.std.proofs.Common.{◌≡◌, ℕ, ◌<◌, true}
use Rattle.search_settle.specs.Truth.{holds}
use Rattle.search_settle.proofs.settled.unreached_member.Given as goal

abbrev pub invariant-loop-number : goal.invariant-loop-number
invariant-loop-number l = (number : ℕ) → number < l.number → holds l.set.items number ≡ true → holds l.reached.marks number ≡ true
