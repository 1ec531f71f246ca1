-- The wanted numbers so far are reached.
use Rattle.std.proofs.Common.{◌≡◌, ℕ, ◌<◌, true}
use Rattle.search_settle.specs.Reach.{Extends, IsFound}
use Rattle.search_settle.specs.Truth.{holds}
use Rattle.search_settle.proofs.reached.Reached.seed.Given as goal

abbrev pub invariant-loop-number : goal.invariant-loop-number
invariant-loop-number l = IsFound l.given l.known (holds l.set.items) l.self
    × Extends l.fn.self l.self
    × ((number : ℕ) → number < l.number → holds l.set.items number ≡ true → holds l.known.wanted number ≡ true
    → holds l.self.marks number ≡ true)
