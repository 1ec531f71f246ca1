-- What the atoms so far ask for is marked.
use Rattle.std.proofs.Common.{◌≡◌, ℕ, ◌<◌, Some}
use Rattle.std.specs.Prelude.{slice_get}
use Rattle.rules.specs.Package.{Atom, Matches}
use Rattle.reach.specs.Marks.{Extends}
use Rattle.reach.specs.Reached.{HasAll}
use Rattle.reach.proofs.marks.Marks.mark_clause.Given as goal

abbrev pub invariant-loop-atom : goal.invariant-loop-atom
invariant-loop-atom l = Extends l.fn.self l.self
    × ((k : ℕ) (each : Atom) → k < l.atom-index → slice_get l.clause k ≡ Some each
    → HasAll l.providers l.self.marks (λ pkg. Matches pkg each))
