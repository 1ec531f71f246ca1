-- The places so far are marked that are those of pairs of the name.
use Rattle.std.proofs.Common.{◌≡◌, ℕ, ◌<◌, true, Some, get_or}
use Rattle.std.specs.Prelude.{slice_get}
use Rattle.rules.specs.Universe.{Pair}
use Rattle.reach.specs.Marks.{Extends, has}
use Rattle.reach.proofs.marks.Marks.mark_name.Given as goal

abbrev pub invariant-loop-place : goal.invariant-loop-place
invariant-loop-place l = Extends l.fn.self l.self
    × ((k : ℕ) (pair : Pair) → k < l.place-index → slice_get l.universe.pairs (get_or l.place-items k 0) ≡ Some pair → pair.pkg.name ≡ l.name
    → has l.self.marks (get_or l.place-items k 0) ≡ true)
