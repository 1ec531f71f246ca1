-- What the numbers so far need is reached.
use Rattle.std.proofs.Common.{ℕ, ◌<◌, ◌≤◌, ◌^◌, length, get_or}
use Rattle.search_settle.specs.Reach.{Extends, HasNeeds, IsFound}
use Rattle.search_settle.specs.Truth.{holds}
use Rattle.search_settle.proofs.reached.Reached.close.Given as goal

abbrev pub invariant-loop-place : goal.invariant-loop-place
invariant-loop-place l = IsFound l.given l.known (holds l.set.items) l.self
    × Extends l.fn.self l.self
    × ((k : ℕ) → k < l.place → HasNeeds l.given (holds l.set.items) (holds l.self.marks) (get_or l.self.order k 0))
    × (l.place ≤ length l.self.order) × (l.place ≤ 2 ^ 63)
