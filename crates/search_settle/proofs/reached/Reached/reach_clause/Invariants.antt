-- What the literals so far select is reached.
use Rattle.std.proofs.Common.{◌≡◌, ℕ, pos, ◌<◌, true, get_or}
use Rattle.search_settle.specs.Given.{clause_at}
use Rattle.search_settle.specs.Reach.{Extends, IsFound}
use Rattle.search_settle.specs.Truth.{holds}
use Rattle.search_settle.proofs.reached.Reached.reach_clause.Given as goal

abbrev pub invariant-loop-literal : goal.invariant-loop-literal
invariant-loop-literal l = IsFound l.given l.known (holds l.set.items) l.self
    × Extends l.fn.self l.self
    × ((k other : ℕ) → k < l.literal-index → get_or (clause_at l.given l.place) k (pos 0) ≡ pos other → holds l.set.items other ≡ true
    → holds l.self.marks other ≡ true)
