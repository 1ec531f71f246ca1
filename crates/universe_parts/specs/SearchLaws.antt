-- What a binary search in a sorted list finds: laws for the crates above too.
use Rattle.std.proofs.Common.{◌≡◌, ℕ, zero, suc, ◌<◌, ◌≤◌, Bool, true, false, IsSome, unwrap_or, List, [], ◌∷◌, length, get_or, Result, Ok, Err, Option, Some, None, refl, sym, ap, ◌∙◌, arith}
use Rattle.std.specs.Prelude.{is_ok}
use Rattle.std.specs.List.{Any, Contains, find, list_any, slice_get}
use Rattle.std.specs.List.Sorted.{IsBinarySearchResult, IsNonDecreasingBy, IsSearchInRange}
use Rattle.std.specs.Option.{option_map}
use Rattle.std.specs.Ordering.{is_eq, ordering_index}
use Rattle.std.specs.declared.cmp.Ordering.{Ordering}
use Rattle.std.specs.declared.cmp.Ordering.TheVariants.{Less, Equal, Greater}
use Rattle.std.proofs.lemmas.Bool.{cases_lt, false_from_ne_true}
use Rattle.std.proofs.lemmas.List.Elements.{Contains-get_or}
use Rattle.rules.specs.ElementLaws.{Any-from_list_any, Contains-head, Contains-rest, list_any-from_contains}
use Rattle.universe_parts.specs.FindLaws.{find-exists, find-some}
use mathlib.Core.Logic.{inl, inr}

-- a binary search tells whether an element passes, where just those that are found equal pass
pub searched_any : {X : Type 0} (test : X → Bool) (ord : X → Ordering) (xs : List X) (r : Result ℕ ℕ)
    → ((x : X) → is_eq (ord x) ≡ test x) → IsNonDecreasingBy (λ x. ordering_index (ord x)) xs
    → IsSearchInRange r (length xs) → IsBinarySearchResult ord xs r → is_ok r ≡ list_any test xs
searched_any {X} test ord xs (Ok i) same rises within result_is = sym (some xs within result_is)
  where
    some : (ys : List X) → i < length ys → ((d : X) → ord (get_or ys i d) ≡ Equal) → list_any test ys ≡ true
    some [] within result_is = absurd (omega arith)
    some (y ∷ ys) within result_is = list_any-from_contains test (y ∷ ys) (get_or (y ∷ ys) i y)
        (Contains-get_or (y ∷ ys) i y within)
        (sym (same (get_or (y ∷ ys) i y)) ∙ ap is_eq (result_is y))
searched_any {X} test ord xs (Err i) same rises within result_is =
    sym (false_from_ne_true (list_any test xs) (λ some.
    Any-elim' (Any-from_list_any test xs some)))
  where
    parts : ((k : ℕ) (d : X) → 0 ≤ k → k < i → ord (get_or xs k d) ≡ Less)
        × ((k : ℕ) (d : X) → i ≤ k → k < length xs → ord (get_or xs k d) ≡ Greater)
    parts = result_is rises

    unlike : (x : X) → test x ≡ true → (o : Ordering) → is_eq o ≡ false → ord x ≡ o → ⊥
    unlike x passes o other is =
        let e : true ≡ false = sym passes ∙ sym (same x) ∙ ap is_eq is ∙ other in cc

    Any-elim' : Any (λ x. test x ≡ true) xs → ⊥
    Any-elim' (k, x, inside, is, passes) = elim (cases_lt k i) [
      | inl below ↦ unlike x passes Less refl (ap ord (sym is) ∙ parts.0 k x (omega arith) below)
      | inr above ↦ unlike x passes Greater refl (ap ord (sym is) ∙ parts.1 k x above inside)
    ]

-- a place that is within has an element
pub slice_get-holds : {X : Type 0} (P : X → Type 0) (xs : List X) (i : ℕ) → i < length xs → ((d : X) → P (get_or xs i d))
    → (x : X) × (slice_get xs i ≡ Some x) × Contains xs x × P x
slice_get-holds P [] i within holds = absurd (omega arith)
slice_get-holds P (x ∷ xs) zero within holds = (x, refl, Contains-head x xs, holds x)
slice_get-holds {X} P (x ∷ xs) (suc i) within holds =
    let later = slice_get-holds P xs i (omega arith) (λ d. holds d) in
    (later.0, later.1, Contains-rest x xs later.0 later.2, later.3)

-- the element at the place that a binary search finds is the one that passes, where no other does
pub searched_find : {X : Type 0} (test : X → Bool) (ord : X → Ordering) (xs : List X) (i : ℕ)
    → ((x : X) → is_eq (ord x) ≡ test x)
    → ((x y : X) → Contains xs x → Contains xs y → test x ≡ true → test y ≡ true → x ≡ y)
    → i < length xs → ((d : X) → ord (get_or xs i d) ≡ Equal) → slice_get xs i ≡ find test xs
searched_find test ord xs i same one within result_is =
    let at = slice_get-holds (λ x. ord x ≡ Equal) xs i within result_is in
    let passes : test at.0 ≡ true = sym (same at.0) ∙ ap is_eq at.3 in
    let first = find-exists test xs at.0 at.2 passes in
    let there = find-some test xs first.0 first.1 in
    at.1 ∙ ap Some (one at.0 first.0 at.2 there.0 passes there.1) ∙ sym first.1

-- where a binary search finds nothing, nothing passes
pub searched_none : {X : Type 0} (test : X → Bool) (ord : X → Ordering) (xs : List X) (i : ℕ)
    → ((x : X) → is_eq (ord x) ≡ test x) → IsNonDecreasingBy (λ x. ordering_index (ord x)) xs
    → IsSearchInRange (Err i) (length xs) → IsBinarySearchResult ord xs (Err i) → find test xs ≡ None
searched_none {X} test ord xs i same rises within result_is = at (find test xs) refl
  where
    at : (o : Option X) → find test xs ≡ o → find test xs ≡ None
    at None none = none
    at (Some x) some =
        let there = find-some test xs x some in
        absurd (let e : false ≡ true = searched_any test ord xs (Err i) same rises within result_is
        ∙ list_any-from_contains test xs x there.0 there.1 in cc)

-- what a place that is within gives is the element there
some-map : {A B : Type 0} (f : A → B) (o : Option A) → IsSome o → IsSome (option_map f o)
some-map f None some = absurd (let e : false ≡ true = some in cc)
some-map f (Some x) some = refl

pub got : {A X : Type 0} (f : A → X) (o : Option A) (xs : List X) (i : ℕ) → i < length xs → IsSome o
    → ((d : X) → unwrap_or (option_map f o) d ≡ get_or xs i d) → option_map f o ≡ slice_get xs i
got {A} {X} f o xs i within some is = at (option_map f o) (some-map f o some) is
  where
    at : (p : Option X) → IsSome p → ((d : X) → unwrap_or p d ≡ get_or xs i d) → p ≡ slice_get xs i
    at None none by = absurd (let e : false ≡ true = none in cc)
    at (Some x) here by =
        let there = slice_get-holds (λ (y : X). x ≡ y) xs i within (λ d. by d) in
        ap Some there.3 ∙ sym there.1
