-- Following from clauses that are lists of literals.
use Rattle.std.specs.Prelude.{◌≡◌, ◌↔◌, ℕ, Bool, List, [], ◌∷◌, Some, IsTrue}
use Rattle.std.specs.List.{Contains}
use Rattle.refutation.specs.Clause.{HasAt, item_at}
use Rattle.refutation.specs.Following.{HasOneOpen, FalseAfter, IsAllFalse}
use Rattle.refutation.specs.declared.literal.Literal.{Literal}

-- the clause of this number is there, and all false
abbrev pub IsFalseAt : List (List Literal) → (Literal → Type 0) → ℕ → Type 0
IsFalseAt clauses falses hint = HasAt clauses hint (λ clause. IsAllFalse falses (Contains clause))

-- with this false, going through the hints in order ends in a clause that is all false (`EndsFalse` of `refutation`), with the
-- last hint apart from those before it
abbrev pub GoesThrough : List (List Literal) → (Literal → Type 0) → List ℕ → ℕ → Type 0
GoesThrough clauses falses [] last = IsFalseAt clauses falses last
GoesThrough clauses falses (hint ∷ rest) last = HasAt clauses hint (λ clause. HasOneOpen falses (Contains clause)
    × GoesThrough clauses (FalseAfter falses (Contains clause)) rest last)

-- two tests are true of the same literals
abbrev pub AreAlike : (Literal → Type 0) → (Literal → Type 0) → Type 0
AreAlike falses others = (literal : Literal) → falses literal ↔ others literal

-- the answer is whether at most one literal of the clause is open, and if so its negation is false afterwards
abbrev pub Narrows : (Literal → Type 0) → (Literal → Type 0) → Bool → (Literal → Type 0) → Type 0
Narrows falses clause is_one after = (IsTrue is_one ↔ HasOneOpen falses clause)
    × (IsTrue is_one → AreAlike after (FalseAfter falses clause))

-- the answer is whether the hint is a clause with at most one open literal, and if so its negation is false afterwards
abbrev pub GoesOn : List (List Literal) → ℕ → (Literal → Type 0) → Bool → (Literal → Type 0) → Type 0
GoesOn clauses hint falses went after = (IsTrue went ↔ HasAt clauses hint (λ clause. HasOneOpen falses (Contains clause)))
    × ((clause : List Literal) → item_at clauses hint ≡ Some clause → IsTrue went → AreAlike after (FalseAfter falses (Contains clause)))
