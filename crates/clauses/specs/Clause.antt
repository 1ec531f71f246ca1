-- Clauses, and what it means that a selection of numbers makes them true (propositional logic).
use Rattle.std.specs.Prelude.{ℕ, ◌+◌, ◌<◌, Bool, true, false, List, length}
use Rattle.std.specs.Prelude.{ℤ, pos, negsuc}
use Rattle.std.specs.List.{All, Any, Contains, filter}

-- a literal is true of a selection: n where the selection holds n, -n where it doesn't
abbrev pub IsTrueLiteral : List ℕ → ℤ → Type 0
IsTrueLiteral selection (pos number) = Contains selection number
IsTrueLiteral selection (negsuc below) = ¬ Contains selection (below + 1)

-- a clause is true of a selection where one of its literals is
abbrev pub IsTrueOf : List ℕ → List ℤ → Type 0
IsTrueOf selection clause = Any (IsTrueLiteral selection) clause

-- a selection makes all clauses true
abbrev pub MakesAllTrue : List ℕ → List (List ℤ) → Type 0
MakesAllTrue selection clauses = All (IsTrueOf selection) clauses

-- whether a literal isn't negated
abbrev pub is_unnegated : ℤ → Bool
is_unnegated (pos number) = true
is_unnegated (negsuc below) = false

-- a clause leaves a choice where two or more of its literals aren't negated
abbrev pub LeavesChoice : List ℤ → Type 0
LeavesChoice clause = 1 < length (filter is_unnegated clause)
