-- What the clauses so far say that is needed is reached.
use Rattle.std.proofs.Common.{◌≡◌, ℕ, pos, ◌<◌, true, get_or}
use Rattle.std.specs.List.{Contains}
use Rattle.search_settle.specs.Given.{clause_at, is_need_at, places_without}
use Rattle.search_settle.specs.Reach.{Extends, IsFound}
use Rattle.search_settle.specs.Truth.{holds}
use Rattle.search_settle.proofs.reached.Reached.expand.Given as goal

abbrev pub invariant-loop-place : goal.invariant-loop-place
invariant-loop-place l = IsFound l.given l.known (holds l.set.items) l.self
    × Extends l.fn.self l.self
    × ((k other : ℕ) → k < l.place-index → is_need_at l.given l.number (get_or (places_without l.given l.number) k 0) ≡ true
    → Contains (clause_at l.given (get_or (places_without l.given l.number) k 0)) (pos other) → holds l.set.items other ≡ true
    → holds l.self.marks other ≡ true)
