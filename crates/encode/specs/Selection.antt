-- That a selection is acceptable where it makes all clauses true.
use Rattle.std.specs.Prelude.{ℕ, ◌≤◌, List}
use Rattle.std.specs.List.{All}
use Rattle.clauses.specs.Clause.{MakesAllTrue}
use Rattle.refutation.specs.Laws.{HasAscendingPairs, HasNeededPairs}
use Rattle.refutation.specs.Selection.{selects}
use Rattle.rules.specs.Sound.{IsAcceptable}
use Rattle.rules.specs.Universe.{Universe}
use Rattle.encode.specs.Encoding.{Encoding, IsEncoding}

-- a selection of numbers of pairs that makes every clause of the universe true is acceptable
abbrev pub TrueSelectionIsAcceptable : Type 0
TrueSelectionIsAcceptable = (u : Universe) (encoding : Encoding) (selection : List ℕ) → HasAscendingPairs u → HasNeededPairs u
    → IsEncoding u encoding → All (λ number. 1 ≤ number) selection → MakesAllTrue selection encoding.clauses.clauses
    → IsAcceptable u (selects selection)
