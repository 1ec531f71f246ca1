-- What the places so far need is marked.
use Rattle.std.proofs.Common.{ℕ, ◌<◌, ◌≤◌, ◌^◌, length, get_or}
use Rattle.reach.specs.Marks.{Extends}
use Rattle.reach.specs.Reached.{HasNeeds}
use Rattle.reach.proofs.marks.Marks.close.Given as goal

abbrev pub invariant-loop-turn : goal.invariant-loop-turn
invariant-loop-turn l = Extends l.fn.self l.self
    × ((k : ℕ) → k < l.turn → HasNeeds l.providers l.self.marks (get_or l.self.order k 0))
    × (l.turn ≤ length l.self.order) × (l.turn ≤ 2 ^ 63)
