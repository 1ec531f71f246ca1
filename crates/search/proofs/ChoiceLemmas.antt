-- A clause that leaves a choice says that a number is selected which isn't the first one.
use Rattle.std.proofs.Common.{◌≡◌, ◌↔◌, ℕ, ◌+◌, ◌<◌, ◌≤◌, zero, suc, Bool, true, false, not, cond, List, [], ◌∷◌, length, get_or, nat_lt, Some, None, IsTrue, refl, sym, ap, subst, ◌∙◌, arith, ℤ, pos, int_eq}
use Rattle.std.specs.List.{Any, Contains, position, position_or_len}
use Rattle.std.proofs.lemmas.Bool.Decides.{Decides-int_eq, nat_tests}
use Rattle.std.proofs.lemmas.List.{get_or_default}
use Rattle.std.proofs.lemmas.List.Quantifiers.{position-Some}
use Rattle.search.specs.Choice.{HasTwo, IsOtherThan, is_positive}

-- where the first place that passes is behind all elements no element passes
none_passes : (p : ℤ → Bool) (xs : List ℤ) (k : ℕ) (d : ℤ) → length xs ≤ position_or_len p xs → k < length xs → p (get_or xs k d) ≡ false
none_passes p [] k d past within = absurd (omega (arith, within))
none_passes p (x ∷ xs) k d past within = by (p x) k refl past within (λ place behind inside. none_passes p xs place d behind inside)
  where
    by : (b : Bool) (k : ℕ) → p x ≡ b → length (x ∷ xs) ≤ cond (not b) (1 + position_or_len p xs) 0 → k < length (x ∷ xs)
        → ((place : ℕ) → length xs ≤ position_or_len p xs → place < length xs → p (get_or xs place d) ≡ false)
        → p (get_or (x ∷ xs) k d) ≡ false
    by true k e past within rest = absurd (omega (arith, past))
    by false zero e past within rest = e
    by false (suc place) e past within rest = rest place (omega (arith, past)) (omega (arith, within))

-- with the first number that is selected a clause leaves a choice just where another one is
pub two_by_first : (clause : List ℤ) (at : ℕ) (first : ℤ) → position is_positive clause ≡ Some at → first ≡ get_or clause at (pos 0)
    → Any (IsOtherThan first) clause ↔ HasTwo clause
unfolding HasTwo
two_by_first clause at first is there = let facts = position-Some is_positive clause at (pos 0) is in (
  λ others. (at, first, facts.0, get_or_default clause at first (pos 0) facts.0 ∙ sym there, (subst (λ literal. IsTrue (is_positive literal)) (sym there) facts.1, others)),
  λ (k, one, below, here, (selected, others)). by (int_eq one first) one refl (k, below, here) selected others,
)
  where
    by : (b : Bool) → (one : ℤ) → int_eq one first ≡ b → Contains clause one → IsTrue (is_positive one) → Any (IsOtherThan one) clause
        → Any (IsOtherThan first) clause
    by true one same within selected others = subst (λ literal. Any (IsOtherThan literal) clause) ((Decides-int_eq one first).0 same) others
    by false one differs within selected others = (
      within.0,
      one,
      within.1,
      within.2,
      (
        selected,
        λ same. absurd (let h = (Decides-int_eq one first).1 same in cc),
      ),
    )

-- with none it leaves no choice
pub none_by_first : (clause : List ℤ) → position is_positive clause ≡ None → ¬ HasTwo clause
unfolding HasTwo
none_by_first clause is (k, one, below, here, (selected, others)) =
    by (nat_lt (position_or_len is_positive clause) (length clause)) refl is
  where
    by : (b : Bool) → nat_lt (position_or_len is_positive clause) (length clause) ≡ b
        → cond b (Some (position_or_len is_positive clause)) None ≡ None → ⊥
    by true e is = absurd (let h = is in cc)
    by false e is =
        let past : length clause ≤ position_or_len is_positive clause = grind (arith, nat_tests, e) in
        let fails : is_positive one ≡ false = ap is_positive (sym here) ∙ none_passes is_positive clause k one past below in
        absurd (let h = fails in let g = selected in cc)
