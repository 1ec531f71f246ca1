-- What it means that a selection makes clauses over numbers true (propositional logic). A selection is a test on numbers.
use Rattle.std.specs.Prelude.{◌≡◌, ℕ, ◌+◌, ◌<◌, Bool, true, false, not, List, [], length, ℤ, pos, negsuc, slice_index_or}
use Rattle.std.specs.List.{list_any}

-- whether a set, which says of each number from 0 on whether it holds it, holds a number
abbrev pub holds : List Bool → ℕ → Bool
holds set number = slice_index_or set number false

-- whether a literal is true of a selection: n where the selection has n, -n where it hasn't
abbrev pub is_true_of : (ℕ → Bool) → ℤ → Bool
is_true_of selection (pos number) = selection number
is_true_of selection (negsuc below) = not (selection (below + 1))

-- whether a clause is true of a selection: one of its literals is
abbrev pub is_clause_true : (ℕ → Bool) → List ℤ → Bool
is_clause_true selection clause = list_any (is_true_of selection) clause

-- a selection makes each clause true
unfoldable pub AreTrue : (ℕ → Bool) → List (List ℤ) → Type 0
AreTrue selection clauses = (place : ℕ) → place < length clauses → is_clause_true selection (slice_index_or clauses place []) ≡ true
