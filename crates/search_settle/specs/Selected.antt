-- Selections as lists of numbers.
use Rattle.std.specs.Prelude.{ℕ, ◌+◌, ◌<◌, ◌≤◌, Bool, true, false, List, [], ◌∷◌}
use Rattle.std.specs.List.{All, AllPairs}

-- numbers as a selection has them: ascending, from 1 to the greatest
abbrev pub IsSelection : ℕ → List ℕ → Type 0
IsSelection greatest numbers = AllPairs (λ earlier later. earlier < later) numbers
    × All (λ number. (1 ≤ number) × (number ≤ greatest)) numbers

-- the numbers that a set holds, ascending, where its first place is that of this number
abbrev pub numbers_from : ℕ → List Bool → List ℕ
numbers_from number [] = []
numbers_from number (true ∷ set) = number ∷ numbers_from (number + 1) set
numbers_from number (false ∷ set) = numbers_from (number + 1) set
