-- The numbers that a set holds: ascending, and a literal that is true of the set is true of them.
use Rattle.std.proofs.Common.{◌≡◌, ℕ, ◌+◌, ◌<◌, ◌≤◌, Bool, true, false, List, [], ◌∷◌, length, get_or, refl, sym, subst, zero, suc, arith, ℤ, pos, negsuc}
use Rattle.std.specs.List.{All, Contains}
use Rattle.std.proofs.lemmas.List.{get_or_default}
use Rattle.clauses.specs.Clause.{IsTrueLiteral, MakesAllTrue}
use Rattle.search.specs.Found.{IsSelection}
use Rattle.search.specs.Set.{AreMadeTrue, holds, is_true_in, numbers_from}

-- what holds of the elements at all places holds of each element
pub all_places : {X : Type 0} (P : X → Type 0) (xs : List X) (default : X) (count : ℕ) → length xs ≤ count →
    ((k : ℕ) → k < count → P (get_or xs k default)) → All P xs
all_places P xs default count all below k d h = subst P (get_or_default xs k default d h) (below k (omega arith))

-- each number has its place in the set, which holds it
pub number_at : (start : ℕ) (set : List Bool) (k d : ℕ) → k < length (numbers_from start set) →
    (place : ℕ) × (get_or (numbers_from start set) k d ≡ start + place) × (place < length set) × (get_or set place false ≡ true)
number_at start [] k d h = absurd (omega arith)
number_at start (true ∷ set) zero d h = (0, omega arith, omega arith, refl)
number_at start (true ∷ set) (suc k) d h =
    let position = number_at (start + 1) set k d (omega arith) in
    (suc position.0, omega (arith, position.1), omega (arith, position.2), position.3)
number_at start (false ∷ set) k d h =
    let position = number_at (start + 1) set k d h in
    (suc position.0, omega (arith, position.1), omega (arith, position.2), position.3)

-- the numbers ascend
pub numbers_ascend : (start : ℕ) (set : List Bool) (i j d : ℕ) → i < j → j < length (numbers_from start set) →
    get_or (numbers_from start set) i d < get_or (numbers_from start set) j d
numbers_ascend start [] i j d earlier h = absurd (omega arith)
numbers_ascend start (true ∷ set) i zero d earlier h = absurd (omega arith)
numbers_ascend start (true ∷ set) zero (suc j) d earlier h =
    let position = number_at (start + 1) set j d (omega arith) in omega (arith, position.1)
numbers_ascend start (true ∷ set) (suc i) (suc j) d earlier h =
    numbers_ascend (start + 1) set i j d (omega arith) (omega arith)
numbers_ascend start (false ∷ set) i j d earlier h = numbers_ascend (start + 1) set i j d earlier h

-- what the set holds is among the numbers
pub held_is_listed : (start : ℕ) (set : List Bool) (place number : ℕ) → number ≡ start + place → get_or set place false ≡ true →
    Contains (numbers_from start set) number
held_is_listed start [] place number is held = absurd (cc)
held_is_listed start (true ∷ set) zero number is held = (0, omega arith, omega arith)
held_is_listed start (true ∷ set) (suc place) number is held =
    let position = held_is_listed (start + 1) set place number (omega arith) held in (suc position.0, omega (arith, position.1), position.2)
held_is_listed start (false ∷ set) zero number is held = absurd (cc)
held_is_listed start (false ∷ set) (suc place) number is held = held_is_listed (start + 1) set place number (omega arith) held

-- what is among the numbers is held by the set
pub listed_is_held : (set : List Bool) (number : ℕ) → Contains (numbers_from 0 set) number → get_or set number false ≡ true
listed_is_held set number listed =
    let position = number_at 0 set listed.0 number listed.1 in
    let place : position.0 ≡ number = omega (arith, position.1, listed.2) in
    subst (λ (n : ℕ). get_or set n false ≡ true) place position.3

-- a literal that is true of the set is true of its numbers
pub literal_of_set : (set : List Bool) (literal : ℤ) → is_true_in set literal ≡ true → IsTrueLiteral (numbers_from 0 set) literal
literal_of_set set (pos number) h = held_is_listed 0 set number number (omega arith) h
literal_of_set set (negsuc below) h = λ listed. let held = listed_is_held set (below + 1) listed in absurd (cc)

-- what makes every clause true as a set does so as numbers
pub numbers_make_true : (set : List Bool) (numbers : List ℕ) (clauses : List (List ℤ)) → numbers ≡ numbers_from 0 set →
    AreMadeTrue set clauses → MakesAllTrue numbers clauses
numbers_make_true set numbers clauses is made = λ k d h.
    let witness = made k d h in
    (witness.0, witness.1, witness.2, witness.3, subst (λ (selection : List ℕ). IsTrueLiteral selection witness.1) (sym is) (literal_of_set set witness.1 witness.4))

-- a number that is held isn't one that isn't
is_positive : (set : List Bool) (number : ℕ) → get_or set 0 false ≡ false → get_or set number false ≡ true → 1 ≤ number
is_positive set zero none held = absurd (cc)
is_positive set (suc below) none held = omega arith

-- the numbers of a set of the right length without 0 are as a selection has them
pub numbers_are_selection : (greatest : ℕ) (set : List Bool) (numbers : List ℕ) → length set ≡ greatest + 1 →
    holds set 0 ≡ false → numbers ≡ numbers_from 0 set → IsSelection greatest numbers
numbers_are_selection greatest set numbers long none is = subst (IsSelection greatest) (sym is) (
  numbers_ascend 0 set,
  λ k d h. let position = number_at 0 set k d h in
      let first : 1 ≤ position.0 = is_positive set position.0 none position.3 in
      (omega (arith, position.1, first), omega (arith, position.1, position.2, long)),
)
