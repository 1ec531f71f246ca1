-- What `find` finds, and what is in a list that is strictly in order: laws for the crates above too.
use Rattle.std.proofs.Common.{◌≡◌, ◌+◌, Bool, true, false, cond, List, [], ◌∷◌, get_or, Option, Some, None, ◌⊎◌, refl, sym, ap, subst, ◌∙◌, arith}
use Rattle.std.specs.Cmp.{IsTotalOrder, tied_back}
use Rattle.std.specs.List.{Contains, find}
use Rattle.std.specs.List.Sorted.{IsSorted, IsStrictlySortedBy}
use Rattle.std.specs.Ordering.{is_lt, ordering_reverse}
use Rattle.std.specs.declared.cmp.Ordering.{Ordering}
use Rattle.std.specs.declared.cmp.Ordering.TheVariants.{Less, Equal}
use Rattle.std.proofs.lemmas.List.Elements.{All-contains}
use Rattle.std.proofs.lemmas.Map.Keys.{Less-from_sorted, sorted_tail}
use Rattle.std.proofs.lemmas.Map.Views.{All-after_first}
use Rattle.std.proofs.lemmas.Option.{same_Some}
use Rattle.rules.specs.ElementLaws.{Contains-cons, Contains-head, Contains-nil, Contains-rest}
use mathlib.Core.Logic.{inl, inr}

-- what is found is an element that passes
pub find-some : {X : Type 0} (p : X → Bool) (xs : List X) (x : X) → find p xs ≡ Some x → Contains xs x × (p x ≡ true)
find-some p [] x is = absurd (let e : None ≡ Some x = is in cc)
find-some {X} p (y ∷ ys) x is = at (p y) refl is (find-some p ys x)
  where
    at : (b : Bool) → p y ≡ b → cond b (Some y) (find p ys) ≡ Some x
        → (find p ys ≡ Some x → Contains ys x × (p x ≡ true)) → Contains (y ∷ ys) x × (p x ≡ true)
    at true here whole rest =
        let same : y ≡ x = same_Some y x whole in
        (subst (Contains (y ∷ ys)) same (Contains-head y ys), subst (λ (z : X). p z ≡ true) same here)
    at false here whole rest =
        let later : Contains ys x × (p x ≡ true) = rest whole in
        (Contains-rest y ys x later.0, later.1)

-- what is found is the same by a test that passes alike
pub find-agree : {X : Type 0} (p q : X → Bool) → ((x : X) → p x ≡ q x) → (xs : List X) → find p xs ≡ find q xs
find-agree p q same [] = refl
find-agree p q same (x ∷ xs) =
    let here : p x ≡ q x = same x in
    let rest : find p xs ≡ find q xs = find-agree p q same xs in
    cc

-- where nothing is found, no element passes
pub find-none : {X : Type 0} (p : X → Bool) (xs : List X) → find p xs ≡ None → (x : X) → Contains xs x → p x ≡ false
find-none p [] none x within = absurd (Contains-nil x within)
find-none {X} p (y ∷ ys) none x within = at (p y) refl none (λ h. find-none p ys h x)
  where
    at : (b : Bool) → p y ≡ b → cond b (Some y) (find p ys) ≡ None
        → (find p ys ≡ None → Contains ys x → p x ≡ false) → p x ≡ false
    at true here whole rest = absurd (let e : Some y ≡ None = whole in cc)
    at false here whole rest = elim (Contains-cons y ys x within) [
      | inl same ↦ subst (λ (z : X). p z ≡ false) same here
      | inr later ↦ rest whole later
    ]

-- where an element passes, one is found
pub find-exists : {X : Type 0} (p : X → Bool) (xs : List X) (x : X) → Contains xs x → p x ≡ true
    → (y : X) × (find p xs ≡ Some y)
find-exists {X} p xs x within passes = at (find p xs) refl
  where
    at : (o : Option X) → find p xs ≡ o → (y : X) × (find p xs ≡ Some y)
    at None none = absurd (let e : p x ≡ false = find-none p xs none x within in cc)
    at (Some y) is = (y, is)

-- two elements of a strictly sorted list that tie are one
pub sorted-one : {X : Type 0} {R : X → X → Ordering} (o : IsTotalOrder R) (xs : List X) → IsStrictlySortedBy R xs
    → (x y : X) → Contains xs x → Contains xs y → R x y ≡ Equal → x ≡ y
sorted-one o [] sorted x y one other tied = absurd (Contains-nil x one)
sorted-one {X} {R} o (z ∷ zs) sorted x y one other tied =
    at (Contains-cons z zs x one) (Contains-cons z zs y other) (sorted-one o zs (sorted_tail R z zs sorted) x y)
  where
    below : (w : X) → Contains zs w → R z w ≡ Less
    below w within = All-contains (λ (q : X). R z q ≡ Less) zs w (All-after_first R z zs sorted) within

    at : (z ≡ x) ⊎ Contains zs x → (z ≡ y) ⊎ Contains zs y → (Contains zs x → Contains zs y → R x y ≡ Equal → x ≡ y) → x ≡ y
    at (inl first) (inl second) rest = sym first ∙ second
    at (inl first) (inr second) rest =
        absurd (let e : R z y ≡ Less = below y second in let f : R z y ≡ Equal = subst (λ (w : X). R w y ≡ Equal) (sym first) tied in cc)
    at (inr first) (inl second) rest =
        absurd (let e : R z x ≡ Less = below x first in let f : R z x ≡ Equal = subst (λ (w : X). R w x ≡ Equal) (sym second) (tied_back o x y tied) in cc)
    at (inr first) (inr second) rest = rest first second tied

-- what is strictly in order is in order
pub not_back : {X : Type 0} (R : X → X → Ordering) → ((x y : X) → R x y ≡ ordering_reverse (R y x)) → (xs : List X)
    → IsStrictlySortedBy R xs → IsSorted R xs
not_back R turns xs ascending k d low high =
    let below : R (get_or xs k d) (get_or xs (k + 1) d) ≡ Less =
    Less-from_sorted R xs k (k + 1) d ascending (omega arith) high in
    ap is_lt (turns (get_or xs (k + 1) d) (get_or xs k d) ∙ ap ordering_reverse below)
