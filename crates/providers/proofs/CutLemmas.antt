-- Lists in order, cut at a point: what stands in front and behind, and what an order keeps.
use Rattle.std.proofs.Common.{◌≡◌, ℕ, zero, suc, ◌+◌, ◌≤◌, Bool, true, false, not, cond, ◌&&◌, List, [], ◌∷◌, take, drop, get_or, length, ltb, refl, sym, ap, subst, ◌∙◌, arith, one-add}
use Rattle.std.specs.Cmp.{IsTotalOrder}
use Rattle.std.specs.List.{AllPairs, Contains, filter, prefix_len}
use Rattle.std.specs.List.Sorted.{IsPartitionPoint, IsPartitionedBy, IsStrictlySortedBy}
use Rattle.std.specs.Ordering.{is_le, is_lt, ordering_then}
use Rattle.std.specs.declared.cmp.Ordering.{Ordering}
use Rattle.std.specs.declared.cmp.Ordering.TheVariants.{Less, Equal, Greater}
use Rattle.std.proofs.lemmas.Bool.{cases_Bool, ltb-false, ltb-true}
use Rattle.std.proofs.lemmas.Cmp.{alike_right}
use Rattle.std.proofs.lemmas.List.{take-append-drop}
use Rattle.std.proofs.lemmas.List.Elements.{Contains-append_right}
use Rattle.std.proofs.lemmas.Map.Keys.{Less-from_sorted, sorted_tail}
use Rattle.rules.specs.ElementLaws.{Contains-filter, Contains-head, Contains-rest}
use mathlib.Core.Logic.{inl, inr}

-- what stands before the point passes, and what stands behind it doesn't
abbrev pub IsCut : {X : Type 0} → (X → Bool) → List X → ℕ → Type 0
IsCut p xs i = IsPartitionPoint (λ y. p y ≡ true) (λ y. p y ≡ false) xs i

pub front_passes : {X : Type 0} (p : X → Bool) (xs : List X) (i : ℕ) → IsCut p xs i → take i xs ≡ filter p xs
front_passes p [] zero cut = refl
front_passes p [] (suc i) cut = refl
front_passes p (x ∷ xs) zero cut = rw (cut.1 0 x (omega arith) (omega arith))
    (front_passes p xs zero (λ k d low high. absurd (omega arith), λ k d low high. cut.1 (suc k) d (omega arith) (omega arith)))
front_passes p (x ∷ xs) (suc i) cut = rw (cut.0 0 x (omega arith) (omega arith))
    (ap (λ ys. x ∷ ys)
    (front_passes p xs i (λ k d low high. cut.0 (suc k) d (omega arith) (omega arith), λ k d low high. cut.1 (suc k) d (omega arith) (omega arith))))

pub back_passes : {X : Type 0} (p : X → Bool) (xs : List X) (i : ℕ) → IsCut p xs i → drop i xs ≡ filter (λ y. not (p y)) xs
back_passes p [] zero cut = refl
back_passes p [] (suc i) cut = refl
back_passes p (x ∷ xs) zero cut = rw (cut.1 0 x (omega arith) (omega arith))
    (ap (λ ys. x ∷ ys)
    (back_passes p xs zero (λ k d low high. absurd (omega arith), λ k d low high. cut.1 (suc k) d (omega arith) (omega arith))))
back_passes p (x ∷ xs) (suc i) cut = rw (cut.0 0 x (omega arith) (omega arith))
    (back_passes p xs i (λ k d low high. cut.0 (suc k) d (omega arith) (omega arith), λ k d low high. cut.1 (suc k) d (omega arith) (omega arith)))

-- where an earlier element passes if a later one does, the list is parted
pub parted : {X : Type 0} (R : X → X → Type 0) (p : X → Bool) (xs : List X) → AllPairs R xs
    → ((earlier later : X) → R earlier later → p later ≡ true → p earlier ≡ true) → IsPartitionedBy p xs
parted R p xs pairs keeps i j d up within passes = elim (cases_Bool (ltb i j)) [
  | inl below ↦ keeps (get_or xs i d) (get_or xs j d) (pairs i j d (ltb-true i j below) within) passes
  | inr other ↦
      let past : j ≤ i = ltb-false i j other in
      let same : i ≡ j = omega arith in
      subst (λ (k : ℕ). p (get_or xs k d) ≡ true) (sym same) passes
]

-- each element of a list in order is before all later ones
pub pairs_sorted : {X : Type 0} (R : X → X → Ordering) (xs : List X) → IsStrictlySortedBy R xs
    → AllPairs (λ earlier later. R earlier later ≡ Less) xs
pairs_sorted R xs up i j d before within = Less-from_sorted R xs i j d up before within

-- what is less in two steps isn't greater in the first
pub first_not_greater : (o w : Ordering) → ordering_then o w ≡ Less → is_le o ≡ true
first_not_greater Less w h = refl
first_not_greater Equal w h = refl
first_not_greater Greater w h = cc

is_less : (o : Ordering) → is_lt o ≡ true → o ≡ Less
is_less Less h = refl
is_less Equal h = absurd (let e : false ≡ true = h in cc)
is_less Greater h = absurd (let e : false ≡ true = h in cc)

-- what isn't behind another is before what that is before
pub before_keeps : {K : Type 0} (R : K → K → Ordering) → IsTotalOrder R → (a b c : K) → is_le (R a b) ≡ true → is_lt (R b c) ≡ true → is_lt (R a c) ≡ true
before_keeps R total a b c first second = by (R a b) refl first
  where
    by : (o : Ordering) → R a b ≡ o → is_le o ≡ true → is_lt (R a c) ≡ true
    by Less e h = ap is_lt (total.trans a b c e (is_less (R b c) second))
    by Equal e h = ap is_lt (total.congr a b c e) ∙ second
    by Greater e h = absurd (let f : false ≡ true = h in cc)

-- and not behind what that isn't behind
pub up_to_keeps : {K : Type 0} (R : K → K → Ordering) → IsTotalOrder R → (a b c : K) → is_le (R a b) ≡ true → is_le (R b c) ≡ true → is_le (R a c) ≡ true
up_to_keeps R total a b c first second = by (R a b) (R b c) refl refl first second
  where
    by : (o w : Ordering) → R a b ≡ o → R b c ≡ w → is_le o ≡ true → is_le w ≡ true → is_le (R a c) ≡ true
    by Less Less e f h k = ap is_le (total.trans a b c e f)
    by Less Equal e f h k = ap is_le (sym (alike_right total b c a f) ∙ e)
    by Less Greater e f h k = absurd (let g : false ≡ true = k in cc)
    by Equal w e f h k = ap is_le (total.congr a b c e ∙ f) ∙ k
    by Greater w e f h k = absurd (let g : false ≡ true = h in cc)

-- Tests one after another

pub filter_twice : {X : Type 0} (p q : X → Bool) (xs : List X) → filter q (filter p xs) ≡ filter (λ x. p x && q x) xs
filter_twice p q [] = refl
filter_twice p q (x ∷ xs) = elim (cases_Bool (p x)) [
  | inl passes ↦ elim (cases_Bool (q x)) [
    | inl both ↦ rw (passes, both) (ap (λ ys. x ∷ ys) (filter_twice p q xs))
    | inr one ↦ rw (passes, one) (filter_twice p q xs)
  ]
  | inr fails ↦ rw fails (filter_twice p q xs)
]

pub filter_alike : {X : Type 0} (p q : X → Bool) → ((x : X) → p x ≡ q x) → (xs : List X) → filter p xs ≡ filter q xs
filter_alike p q same [] = refl
filter_alike p q same (x ∷ xs) = elim (cases_Bool (q x)) [
  | inl passes ↦ rw (same x, passes) (ap (λ ys. x ∷ ys) (filter_alike p q same xs))
  | inr fails ↦ rw (same x, fails) (filter_alike p q same xs)
]

-- tests that agree on each element keep the same
pub filter_agreeing : {X : Type 0} (p q : X → Bool) (xs : List X) → ((x : X) → Contains xs x → p x ≡ q x) → filter p xs ≡ filter q xs
filter_agreeing p q [] same = refl
filter_agreeing p q (x ∷ xs) same = elim (cases_Bool (q x)) [
  | inl passes ↦ rw (same x (Contains-head x xs), passes)
      (ap (λ ys. x ∷ ys) (filter_agreeing p q xs (λ y within. same y (Contains-rest x xs y within))))
  | inr fails ↦ rw (same x (Contains-head x xs), fails) (filter_agreeing p q xs (λ y within. same y (Contains-rest x xs y within)))
]

-- what a test keeps is no longer
pub filter_shorter : {X : Type 0} (p : X → Bool) (xs : List X) → length (filter p xs) ≤ length xs
filter_shorter p [] = omega arith
filter_shorter p (x ∷ xs) = elim (cases_Bool (p x)) [
  | inl passes ↦ rw passes (omega (arith, filter_shorter p xs))
  | inr fails ↦ rw fails (omega (arith, filter_shorter p xs))
]

-- a test that none passes keeps none
pub filter_none : {X : Type 0} (p : X → Bool) (xs : List X) → ((x : X) → Contains xs x → p x ≡ false) → filter p xs ≡ []
filter_none p [] fails = refl
filter_none {X} p (x ∷ xs) fails =
    ap (λ (b : Bool). cond b (x ∷ filter p xs) (filter p xs)) (fails x (Contains-head x xs))
    ∙ filter_none p xs (λ y within. fails y (Contains-rest x xs y within))

-- Fronts

-- a front that passes is kept
pub filter_front : {X : Type 0} (p : X → Bool) (xs : List X) → filter p (take (prefix_len p xs) xs) ≡ take (prefix_len p xs) xs
filter_front p [] = refl
filter_front {X} p (x ∷ xs) = at (p x) refl (filter_front p xs)
  where
    at : (b : Bool) → p x ≡ b → filter p (take (prefix_len p xs) xs) ≡ take (prefix_len p xs) xs
        → filter p (take (cond b (1 + prefix_len p xs) 0) (x ∷ xs)) ≡ take (cond b (1 + prefix_len p xs) 0) (x ∷ xs)
    at true passes rest = rw one-add (
        ap (λ (b : Bool). cond b (x ∷ filter p (take (prefix_len p xs) xs)) (filter p (take (prefix_len p xs) xs))) passes
        ∙ ap (λ (ys : List X). x ∷ ys) rest)
    at false passes rest = refl

-- each of such a front passes
pub front_passes_each : {X : Type 0} (p : X → Bool) (xs : List X) (x : X) → Contains (take (prefix_len p xs) xs) x → p x ≡ true
front_passes_each p xs x within =
    (Contains-filter p (take (prefix_len p xs) xs) x (subst (λ (ys : List _). Contains ys x) (sym (filter_front p xs)) within)).1

-- what is in order stays so without its front
pub sorted_behind : {X : Type 0} (R : X → X → Ordering) (n : ℕ) (xs : List X) → IsStrictlySortedBy R xs → IsStrictlySortedBy R (drop n xs)
sorted_behind R zero xs up = up
sorted_behind R (suc n) [] up = up
sorted_behind R (suc n) (x ∷ xs) up = sorted_behind R n xs (sorted_tail R x xs up)

-- what stands behind a front stands in the whole
pub within_drop : {X : Type 0} (n : ℕ) (xs : List X) (x : X) → Contains (drop n xs) x → Contains xs x
within_drop n xs x within = subst (λ (ys : List _). Contains ys x) (take-append-drop n xs)
    (Contains-append_right (take n xs) (drop n xs) x within)
