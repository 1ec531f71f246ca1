-- What lists have at a place.
use Rattle.std.proofs.Common.{◌≡◌, ℕ, zero, suc, ◌+◌, ◌-◌, ◌<◌, ◌≤◌, ◌++◌, List, [], ◌∷◌, length, get_or, Some, None, refl, sym, ap, subst, ◌∙◌, arith}
use Rattle.std.specs.Prelude.{slice_get}
use Rattle.std.specs.List.{AllZip}
use Rattle.std.proofs.lemmas.Option.{get_or_from_slice_get, slice_get_within}
use Rattle.refutation.specs.Clause.{item_at}

-- what is within a list is found there
pub some_at : {X : Type 0} (xs : List X) (place : ℕ) (d : X) → place < length xs → slice_get xs place ≡ Some (get_or xs place d)
some_at [] place d within = absurd (omega arith)
some_at (x ∷ xs) zero d within = refl
some_at (x ∷ xs) (suc place) d within = some_at xs place d (omega arith)

-- the item at which a loop over a list that is another stands is found in that one
pub item_in : {X : Type 0} (xs ys : List X) (place : ℕ) (x : X) → xs ≡ ys → place < length xs → x ≡ get_or xs place x → slice_get ys place ≡ Some x
item_in {X} xs ys place x same within is =
    subst (λ (zs : List X). slice_get zs place ≡ Some x) same (some_at xs place x within ∙ ap (λ (y : X). Some y) (sym is))

-- the item of a number that is within
pub item_there : {X : Type 0} (items : List X) (number : ℕ) (d : X) → 1 ≤ number → number ≤ length items
    → item_at items number ≡ Some (get_or items (number - 1) d)
item_there items zero d first within = absurd (omega arith)
item_there {X} items (suc place) d first within =
    let same : place ≡ suc place - 1 = omega arith in
    some_at items place d (omega arith) ∙ ap (λ (p : ℕ). Some (get_or items p d)) same

-- the place of the item of a number
pub place_of_item : {X : Type 0} (items : List X) (number : ℕ) (x : X) → item_at items number ≡ Some x
    → (place : ℕ) × (number ≡ place + 1) × (place < length items) × ((d : X) → get_or items place d ≡ x)
place_of_item items zero x at = absurd (let e : None ≡ Some x = at in cc)
place_of_item items (suc place) x at = (place, omega arith, slice_get_within items place x at, λ d. get_or_from_slice_get items place x d at)

-- one more on both sides
pub zip_push : {X Y : Type 0} (R : X → Y → Type 0) (xs : List X) (ys : List Y) (x : X) (y : Y) → AllZip R xs ys → R x y
    → AllZip R (xs ++ x ∷ []) (ys ++ y ∷ [])
zip_push R [] [] x y all here = (here, tt)
zip_push R [] (z ∷ ys) x y all here = absurd all
zip_push R (w ∷ xs) [] x y all here = absurd all
zip_push R (w ∷ xs) (z ∷ ys) x y all here = (all.0, zip_push R xs ys x y all.1 here)

-- what holds of the items at a place
pub zip_at : {Y : Type 0} (R : ℕ → Y → Type 0) (xs : List ℕ) (ys : List Y) (k : ℕ) (d : Y) → AllZip R xs ys → k < length ys
    → (k < length xs) × R (get_or xs k 0) (get_or ys k d)
zip_at R [] [] k d all within = absurd (omega arith)
zip_at R [] (y ∷ ys) k d all within = absurd all
zip_at R (x ∷ xs) [] k d all within = absurd all
zip_at R (x ∷ xs) (y ∷ ys) zero d all within = (omega arith, all.0)
zip_at R (x ∷ xs) (y ∷ ys) (suc k) d all within =
    let (below, here) = zip_at R xs ys k d all.1 (omega arith) in (omega (arith, below), here)
