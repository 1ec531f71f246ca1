-- What the clauses so far ask for is marked.
use Rattle.std.proofs.Common.{◌≡◌, ℕ, ◌<◌, List, Some}
use Rattle.std.specs.Prelude.{slice_get}
use Rattle.rules.specs.Package.{Atom, MatchesSome}
use Rattle.reach.specs.Marks.{Extends}
use Rattle.reach.specs.Reached.{HasAll}
use Rattle.reach.proofs.marks.Marks.mark_clauses.Given as goal

abbrev pub invariant-loop-clause : goal.invariant-loop-clause
invariant-loop-clause l = Extends l.fn.self l.self
    × ((k : ℕ) (each : List Atom) → k < l.clause-index → slice_get l.clauses k ≡ Some each
    → HasAll l.providers l.self.marks (λ pkg. MatchesSome pkg each))
