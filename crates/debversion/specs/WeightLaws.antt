-- Words that tie are the same, since no two bytes weigh the same.
use Rattle.std.proofs.Common.{◌≡◌, ℕ, ◌+◌, ◌≤◌, true, List, [], ◌∷◌, map, refl, arith, inl, inr}
use Rattle.std.proofs.lemmas.Bool.{and_parts, cases_Bool, eqb-true, leb-true, or_cases}
use Rattle.std.proofs.lemmas.List.{append_cancel_right}
use Rattle.std.specs.Char.{is_ascii_alphabetic}
use Rattle.std.specs.FinMap.{nat_cmp-IsAntisymmetric, slice_cmp-IsAntisymmetric}
use Rattle.std.specs.Int.{is_in_range}
use Rattle.std.specs.declared.cmp.Ordering.TheVariants.{Equal}
use Rattle.rules.specs.Version.{end_weight, is_tilde, weight_of, word_cmp}

-- a letter is at most `z`
letters-le : (b : ℕ) → is_ascii_alphabetic b ≡ true → b ≤ 122
letters-le b h = elim (or_cases (is_in_range 65 90 b) (is_in_range 97 122 b) h) [
  | inl capital ↦ omega (arith, leb-true b 90 (and_parts _ _ capital).1)
  | inr small ↦ leb-true b 122 (and_parts _ _ small).1
]

-- what the weight of a byte is
data Weighs (b : ℕ) : Type 0 where
  as_tilde : b ≡ 126 → weight_of b ≡ 0 → Weighs b
  as_letter : b ≤ 122 → weight_of b ≡ 2 + b → Weighs b
  as_other : weight_of b ≡ 258 + b → Weighs b

weighs : (b : ℕ) → Weighs b
weighs b = elim (cases_Bool (is_tilde b)) [
  | inl tilde ↦ as_tilde (eqb-true b 126 tilde) (rw tilde refl)
  | inr no_tilde ↦ elim (cases_Bool (is_ascii_alphabetic b)) [
    | inl letter ↦ as_letter (letters-le b letter) (rw (no_tilde, letter) refl)
    | inr no_letter ↦ as_other (rw (no_tilde, no_letter) refl)
  ]
]

weights-told : (b c : ℕ) → Weighs b → Weighs c → weight_of b ≡ weight_of c → b ≡ c
weights-told b c (as_tilde p q) (as_tilde r s) e = omega arith
weights-told b c (as_tilde p q) (as_letter r s) e = absurd (omega arith)
weights-told b c (as_tilde p q) (as_other r) e = absurd (omega arith)
weights-told b c (as_letter p q) (as_tilde r s) e = absurd (omega arith)
weights-told b c (as_letter p q) (as_letter r s) e = omega arith
weights-told b c (as_letter p q) (as_other r) e = absurd (omega arith)
weights-told b c (as_other p) (as_tilde r s) e = absurd (omega arith)
weights-told b c (as_other p) (as_letter r s) e = absurd (omega arith)
weights-told b c (as_other p) (as_other r) e = omega arith

-- no two bytes weigh the same
weight_of-same : (b c : ℕ) → weight_of b ≡ weight_of c → b ≡ c
weight_of-same b c e = weights-told b c (weighs b) (weighs c) e

-- nor do two words
weights-same : (u w : List ℕ) → map weight_of u ≡ map weight_of w → u ≡ w
weights-same [] [] e = refl
weights-same [] (c ∷ w) e = cc e
weights-same (b ∷ u) [] e = cc e
weights-same (b ∷ u) (c ∷ w) e =
    let first : weight_of b ≡ weight_of c = cc e in
    let rest : map weight_of u ≡ map weight_of w = cc e in
    λ i. weight_of-same b c first i ∷ weights-same u w rest i

-- words that tie are the same
pub word-tied : (u w : List ℕ) → word_cmp u w ≡ Equal → u ≡ w
word-tied u w tied =
    weights-same u w (append_cancel_right (map weight_of u) (map weight_of w) (end_weight ∷ [])
    (slice_cmp-IsAntisymmetric nat_cmp-IsAntisymmetric _ _ tied))
