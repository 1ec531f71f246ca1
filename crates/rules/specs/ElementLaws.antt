-- What holds of each element, of some element, and what the elements of changed lists are.
use Rattle.std.proofs.Common.{◌++◌, sym, ◌||◌, ◌≡◌, zero, suc, Bool, true, false, cond, List, [], ◌∷◌, map, ◌⊎◌, refl, ap, subst, ◌∙◌, arith}
use Rattle.std.specs.List.{All, Any, Contains, filter, list_any}
use Rattle.std.proofs.lemmas.List.Elements.{All-weaker, All-contains_itself, All-contains, All-filter, filter_passes, Contains-append_cases, Contains-append_left, Contains-append_right}
use mathlib.Core.Logic.{inl, inr}

-- what holds of each element by itself holds of all
pub All-intro : {X : Type 0} (P : X → Type 0) (xs : List X) → ((x : X) → Contains xs x → P x) → All P xs
All-intro P xs each = All-weaker (Contains xs) P each xs (All-contains_itself xs)

-- an element with the property is some element with it
pub Any-intro : {X : Type 0} (P : X → Type 0) (xs : List X) (x : X) → Contains xs x → P x → Any P xs
Any-intro P xs x within holds = (within.0, x, within.1, within.2, holds)

-- some element with the property is an element
pub Any-contains : {X : Type 0} (P : X → Type 0) (xs : List X) (some : Any P xs) → Contains xs some.1
Any-contains P xs some = (some.0, some.2, some.3)

-- what is concluded from an element with the property is concluded from some element with it
pub Any-elim : {X : Type 0} (P : X → Type 0) (xs : List X) (G : Type 0)
    → ((x : X) → Contains xs x → P x → G) → Any P xs → G
Any-elim P xs G each some = each some.1 (some.0, some.2, some.3) some.4

-- some element with a property has a weaker one
pub Any-weaker : {X : Type 0} (P Q : X → Type 0) (xs : List X) → ((x : X) → Contains xs x → P x → Q x) → Any P xs → Any Q xs
Any-weaker P Q xs weaker some = (some.0, some.1, some.2, some.3, weaker some.1 (some.0, some.2, some.3) some.4)

-- the head is an element
pub Contains-head : {X : Type 0} (x : X) (xs : List X) → Contains (x ∷ xs) x
Contains-head x xs = (0, omega arith, refl)

-- an element of the rest is an element
pub Contains-rest : {X : Type 0} (x : X) (xs : List X) (y : X) → Contains xs y → Contains (x ∷ xs) y
Contains-rest x xs y within = (suc within.0, omega (arith, within.1), within.2)

-- an element is the head or an element of the rest
pub Contains-cons : {X : Type 0} (x : X) (xs : List X) (y : X) → Contains (x ∷ xs) y → (x ≡ y) ⊎ Contains xs y
Contains-cons x xs y (zero, within, same) = inl same
Contains-cons x xs y (suc place, within, same) = inr (place, omega (arith, within), same)

-- nothing is an element of the empty list
pub Contains-nil : {X : Type 0} (y : X) → Contains [] y → ⊥
Contains-nil y within = omega (arith, within.1)

-- an element of a mapped list is what an element becomes
pub Contains-map : {X Y : Type 0} (f : X → Y) (xs : List X) (y : Y) → Contains (map f xs) y
    → (x : X) × Contains xs x × (f x ≡ y)
Contains-map f [] y within = absurd (Contains-nil y within)
Contains-map f (x ∷ xs) y within = elim (Contains-cons (f x) (map f xs) y within) [
  | inl same ↦ (x, Contains-head x xs, same)
  | inr later ↦ let witness = Contains-map f xs y later in (witness.0, Contains-rest x xs witness.0 witness.1, witness.2)
]

-- what an element becomes is an element of the mapped list
pub Contains-map_intro : {X Y : Type 0} (f : X → Y) (xs : List X) (x : X) → Contains xs x → Contains (map f xs) (f x)
Contains-map_intro f [] y within = absurd (Contains-nil y within)
Contains-map_intro {X} f (x ∷ xs) y within = elim (Contains-cons x xs y within) [
  | inl same ↦ let P : X → Type 0 = λ z. Contains (f x ∷ map f xs) (f z) in subst P same (Contains-head (f x) (map f xs))
  | inr later ↦ Contains-rest (f x) (map f xs) (f y) (Contains-map_intro f xs y later)
]

-- an element of a filtered list is an element that passes
pub Contains-filter : {X : Type 0} (p : X → Bool) (xs : List X) (y : X) → Contains (filter p xs) y
    → Contains xs y × (p y ≡ true)
Contains-filter p xs y within = (
  All-contains (Contains xs) (filter p xs) y (All-filter p (Contains xs) xs (All-contains_itself xs)) within,
  All-contains (λ x. p x ≡ true) (filter p xs) y (filter_passes p xs) within,
)

-- an element that passes is an element of the filtered list
pub Contains-filter_intro : {X : Type 0} (p : X → Bool) (xs : List X) (y : X) → Contains xs y → p y ≡ true
    → Contains (filter p xs) y
Contains-filter_intro p [] y within passes = absurd (Contains-nil y within)
Contains-filter_intro {X} p (x ∷ xs) y within passes = elim (Contains-cons x xs y within) [
  | inl same ↦ rw (ap p same ∙ passes)
      (let P : X → Type 0 = λ z. Contains (x ∷ filter p xs) z in subst P same (Contains-head x (filter p xs)))
  | inr later ↦ past x (p x) (filter p xs) (Contains-filter_intro p xs y later passes)
]
  where
    past : (x : X) (b : Bool) (kept : List X) → Contains kept y → Contains (cond b (x ∷ kept) kept) y
    past x true kept there = Contains-rest x kept y there
    past x false kept there = there

-- where a test passes some element, there is one that passes
pub Any-from_list_any : {X : Type 0} (p : X → Bool) (xs : List X) → list_any p xs ≡ true → Any (λ x. p x ≡ true) xs
Any-from_list_any p [] passes = absurd (let e : false ≡ true = passes in cc)
Any-from_list_any {X} p (x ∷ xs) passes = at (p x) refl passes (Any-from_list_any p xs)
  where
    later : Any (λ y. p y ≡ true) xs → Any (λ y. p y ≡ true) (x ∷ xs)
    later some = Any-elim (λ y. p y ≡ true) xs (Any (λ y. p y ≡ true) (x ∷ xs))
        (λ y within holds. Any-intro (λ z. p z ≡ true) (x ∷ xs) y (Contains-rest x xs y within) holds) some

    at : (b : Bool) → p x ≡ b → (b || list_any p xs) ≡ true → (list_any p xs ≡ true → Any (λ y. p y ≡ true) xs)
        → Any (λ y. p y ≡ true) (x ∷ xs)
    at true here whole rest = Any-intro (λ y. p y ≡ true) (x ∷ xs) x (Contains-head x xs) here
    at false here whole rest = later (rest whole)

-- where an element passes, the test passes some element
pub list_any-from_contains : {X : Type 0} (p : X → Bool) (xs : List X) (x : X) → Contains xs x → p x ≡ true → list_any p xs ≡ true
list_any-from_contains p [] x within passes = absurd (Contains-nil x within)
list_any-from_contains p (y ∷ ys) x within passes = elim (Contains-cons y ys x within) [
  | inl same ↦ rw (ap p same ∙ passes) refl
  | inr later ↦ rw (list_any-from_contains p ys x later passes) (or_true (p y))
]
  where
    or_true : (b : Bool) → (b || true) ≡ true
    or_true true = refl
    or_true false = refl

-- some element of the mapped list of those that pass has a property where some element passes and becomes one with it
pub Any-map_filter : {X Y : Type 0} (P : Y → Type 0) (f : X → Y) (p : X → Bool) (xs : List X)
    → Any (λ x. (p x ≡ true) × P (f x)) xs → Any P (map f (filter p xs))
Any-map_filter P f p xs some = Any-elim (λ x. (p x ≡ true) × P (f x)) xs (Any P (map f (filter p xs)))
    (λ x within both. Any-intro P (map f (filter p xs)) (f x)
    (Contains-map_intro f (filter p xs) x (Contains-filter_intro p xs x within both.0)) both.1) some

pub Any-filter_map : {X Y : Type 0} (P : Y → Type 0) (f : X → Y) (p : X → Bool) (xs : List X)
    → Any P (map f (filter p xs)) → Any (λ x. (p x ≡ true) × P (f x)) xs
Any-filter_map {X} {Y} P f p xs some = Any-elim P (map f (filter p xs)) (Any (λ x. (p x ≡ true) × P (f x)) xs)
    (λ y within holds.
    let from = Contains-map f (filter p xs) y within in
    let kept = Contains-filter p xs from.0 from.1 in
    Any-intro (λ x. (p x ≡ true) × P (f x)) xs from.0 kept.0 (kept.1, subst P (sym from.2) holds)) some

-- some element of either list
pub Any-append : {X : Type 0} (P : X → Type 0) (xs ys : List X) → Any P (xs ++ ys) → Any P xs ⊎ Any P ys
Any-append P xs ys some = Any-elim P (xs ++ ys) (Any P xs ⊎ Any P ys)
    (λ x within holds. elim (Contains-append_cases xs ys x within)
    [ inl here ↦ inl (Any-intro P xs x here holds) | inr there ↦ inr (Any-intro P ys x there holds) ]) some

pub Any-append_left : {X : Type 0} (P : X → Type 0) (xs ys : List X) → Any P xs → Any P (xs ++ ys)
Any-append_left P xs ys some = Any-elim P xs (Any P (xs ++ ys))
    (λ x within holds. Any-intro P (xs ++ ys) x (Contains-append_left xs ys x within) holds) some

pub Any-append_right : {X : Type 0} (P : X → Type 0) (xs ys : List X) → Any P ys → Any P (xs ++ ys)
Any-append_right P xs ys some = Any-elim P ys (Any P (xs ++ ys))
    (λ x within holds. Any-intro P (xs ++ ys) x (Contains-append_right xs ys x within) holds) some

-- what holds of each element of two lists in a row
pub All-parts : {X : Type 0} (P : X → Type 0) (xs ys : List X) → All P (xs ++ ys) → All P xs × All P ys
All-parts P xs ys all = (
  All-intro P xs (λ x within. All-contains P (xs ++ ys) x all (Contains-append_left xs ys x within)),
  All-intro P ys (λ y within. All-contains P (xs ++ ys) y all (Contains-append_right xs ys y within)),
)
