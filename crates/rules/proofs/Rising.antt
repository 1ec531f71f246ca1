-- Two rising lists of the same elements are one, and what is strictly in order rises.
use Rattle.std.proofs.Common.{◌≡◌, suc, List, [], ◌∷◌, ◌⊎◌, refl, sym, ap, subst, ◌∙◌, arith}
use Rattle.std.specs.Cmp.{IsTotalOrder, tied_itself}
use Rattle.std.specs.List.{All, AllPairs, Contains}
use Rattle.std.specs.List.Sorted.{IsStrictlySortedBy}
use Rattle.std.specs.Ordering.{ordering_reverse}
use Rattle.std.specs.declared.cmp.Ordering.{Ordering}
use Rattle.std.specs.declared.cmp.Ordering.TheVariants.{Less, Equal, Greater}
use Rattle.std.proofs.lemmas.List.Elements.{All-contains}
use Rattle.std.proofs.lemmas.List.Kept.{AllPairs-cons}
use Rattle.std.proofs.lemmas.Map.Keys.{sorted_tail}
use Rattle.std.proofs.lemmas.Map.Views.{All-after_first}
use Rattle.rules.specs.ElementLaws.{Contains-cons, Contains-head, Contains-nil, Contains-rest}
use mathlib.Core.Logic.{inl, inr}

-- the first element is before each other
pub pairs_head : {X : Type 0} (R : X → X → Type 0) (x : X) (xs : List X) → AllPairs R (x ∷ xs) → All (R x) xs
pairs_head R x xs all k d within = all 0 (suc k) d (omega arith) (omega arith)

pub pairs_tail : {X : Type 0} (R : X → X → Type 0) (x : X) (xs : List X) → AllPairs R (x ∷ xs) → AllPairs R xs
pairs_tail R x xs all i j d before within = all (suc i) (suc j) d (omega arith) (omega arith)

-- the elements of one list are elements of another
abbrev pub IsWithin : {X : Type 0} → List X → List X → Type 0
IsWithin {X} xs ys = (x : X) → Contains xs x → Contains ys x

-- nothing is before itself, and of two only one is before the other
module _ {X : Type 0} (R : X → X → Ordering) (o : IsTotalOrder R) where
  abbrev pub IsRising : List X → Type 0
  IsRising xs = AllPairs (λ (x : X) (y : X). R x y ≡ Less) xs

  not_self : (x : X) → R x x ≡ Less → ⊥
  not_self x below = let e : Less ≡ Equal = sym below ∙ tied_itself o x in cc

  not_both_ways : (x y : X) → R x y ≡ Less → R y x ≡ Less → ⊥
  not_both_ways x y below above =
      let e : Less ≡ Greater = sym below ∙ o.antisymm x y ∙ ap ordering_reverse above in cc

  later_below : (x : X) (xs : List X) → IsRising (x ∷ xs) → (y : X) → Contains xs y → R x y ≡ Less
  later_below x xs rising y within =
      All-contains (λ (z : X). R x z ≡ Less) xs y (pairs_head (λ (a : X) (b : X). R a b ≡ Less) x xs rising) within

  -- the heads of rising lists of the same elements are one
  same_heads : (x y : X) (xs ys : List X) → IsRising (x ∷ xs) → IsRising (y ∷ ys)
      → (y ≡ x) ⊎ Contains ys x → (x ≡ y) ⊎ Contains xs y → x ≡ y
  same_heads x y xs ys up up' (inl same) other = sym same
  same_heads x y xs ys up up' (inr later) (inl same) = same
  same_heads x y xs ys up up' (inr later) (inr later') =
      absurd (not_both_ways x y (later_below x xs up y later') (later_below y ys up' x later))

  -- what is behind the one head is behind the other
  within_tails : (x y : X) (xs ys : List X) → IsRising (x ∷ xs) → x ≡ y → IsWithin (x ∷ xs) (y ∷ ys) → IsWithin xs ys
  within_tails x y xs ys up same within z there =
      elim (Contains-cons y ys z (within z (Contains-rest x xs z there))) [
        | inl head ↦ absurd (not_self x (subst (λ (w : X). R x w ≡ Less) (sym (same ∙ head)) (later_below x xs up z there)))
        | inr later ↦ later
      ]

  -- rising lists of the same elements are one
  pub same_rising : (xs ys : List X) → IsRising xs → IsRising ys → IsWithin xs ys → IsWithin ys xs → xs ≡ ys
  same_rising [] [] up up' within back = refl
  same_rising [] (y ∷ ys) up up' within back = absurd (Contains-nil y (back y (Contains-head y ys)))
  same_rising (x ∷ xs) [] up up' within back = absurd (Contains-nil x (within x (Contains-head x xs)))
  same_rising (x ∷ xs) (y ∷ ys) up up' within back =
      let same : x ≡ y = same_heads x y xs ys up up'
      (Contains-cons y ys x (within x (Contains-head x xs))) (Contains-cons x xs y (back y (Contains-head y ys))) in
      let rest : xs ≡ ys = same_rising xs ys
      (pairs_tail (λ (a : X) (b : X). R a b ≡ Less) x xs up) (pairs_tail (λ (a : X) (b : X). R a b ≡ Less) y ys up')
      (within_tails x y xs ys up same within) (within_tails y x ys xs up' (sym same) back) in
      cc

-- each element of a sorted list is before all that follow
pub AllPairs-rising : {X : Type 0} (R : X → X → Ordering) (xs : List X) → IsStrictlySortedBy R xs
    → AllPairs (λ earlier later. R earlier later ≡ Less) xs
AllPairs-rising R [] sorted = λ i j d before within. absurd (omega arith)
AllPairs-rising {X} R (x ∷ xs) sorted = AllPairs-cons (λ (earlier : X) (later : X). R earlier later ≡ Less) x xs
    (All-after_first R x xs sorted) (AllPairs-rising R xs (sorted_tail R x xs sorted))
