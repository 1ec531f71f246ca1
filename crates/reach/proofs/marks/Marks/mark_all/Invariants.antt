-- The places so far are marked.
use Rattle.std.proofs.Common.{◌≡◌, ℕ, ◌<◌, true, get_or}
use Rattle.reach.specs.Marks.{Extends, has}
use Rattle.reach.proofs.marks.Marks.mark_all.Given as goal

abbrev pub invariant-loop-place : goal.invariant-loop-place
invariant-loop-place l = Extends l.fn.self l.self
    × ((k : ℕ) → k < l.place-index → has l.self.marks (get_or l.places k 0) ≡ true)
