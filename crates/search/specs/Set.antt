-- A set of numbers as it is passed over: for each number from 0 on, whether the set holds it.
use Rattle.std.specs.Prelude.{◌≡◌, ℕ, ◌+◌, Bool, true, false, not, List, [], ◌∷◌, ℤ, pos, negsuc, slice_index_or}
use Rattle.std.specs.List.{All, Any}

-- whether the set holds a number
abbrev pub holds : List Bool → ℕ → Bool
holds set number = slice_index_or set number false

-- whether a literal is true of the set
abbrev pub is_true_in : List Bool → ℤ → Bool
is_true_in set (pos number) = holds set number
is_true_in set (negsuc below) = not (holds set (below + 1))

-- a clause has a literal that is true of the set
abbrev pub IsMadeTrue : List Bool → List ℤ → Type 0
IsMadeTrue set clause = Any (λ literal. is_true_in set literal ≡ true) clause

-- each clause has one
abbrev pub AreMadeTrue : List Bool → List (List ℤ) → Type 0
AreMadeTrue set clauses = All (IsMadeTrue set) clauses

-- the numbers that the set holds, ascending, where its first one is this number
abbrev pub numbers_from : ℕ → List Bool → List ℕ
numbers_from number [] = []
numbers_from number (true ∷ set) = number ∷ numbers_from (number + 1) set
numbers_from number (false ∷ set) = numbers_from (number + 1) set
