-- Clauses that leave a choice: each says of two numbers that one of them is selected.
use Rattle.std.specs.Prelude.{◌≢◌, zero, suc, Bool, true, false, List, IsTrue}
use Rattle.std.specs.Prelude.{ℤ, pos, negsuc}
use Rattle.std.specs.List.{Any}

-- whether the literal says that a number is selected
abbrev pub is_positive : ℤ → Bool
is_positive (pos zero) = false
is_positive (pos (suc below)) = true
is_positive (negsuc below) = false

-- the literal says that a number is selected, and isn't this one
abbrev pub IsOtherThan : ℤ → ℤ → Type 0
IsOtherThan first literal = IsTrue (is_positive literal) × (literal ≢ first)

-- the literal says that a number is selected, and one of the clause that another number is
abbrev pub HasAnother : List ℤ → ℤ → Type 0
HasAnother clause first = IsTrue (is_positive first) × Any (IsOtherThan first) clause

-- the clause says of two numbers that one is selected
unfoldable pub HasTwo : List ℤ → Type 0
HasTwo clause = Any (HasAnother clause) clause
