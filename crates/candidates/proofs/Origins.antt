-- Priorities depend on which origins there are, not on their order or how often they are listed, and a version has one.
use Rattle.std.proofs.Common.{◌≡◌, ℕ, ℤ, ◌≤ℤ◌, Bool, true, ◌&&◌, List, map, Option, Some, None, MatchOption, sym, ap, subst, ◌∙◌, arith}
use Rattle.std.specs.List.{Contains, list_any}
use Rattle.std.proofs.lemmas.Int.{ints}
use Rattle.std.proofs.lemmas.List.Elements.{All-contains}
use Rattle.rules.specs.ElementLaws.{All-intro, Any-elim, Any-from_list_any, Contains-map, Contains-map_intro, list_any-from_contains}
use Rattle.rules.specs.Priority.{HasPriorityAmong, IsGreatest, Origin, deciding_among, names_it, pin_matches, priority_in}
use Rattle.rules.specs.declared.release.Preference.{Preference}
use Rattle.universe_parts.specs.FindLaws.{find-agree}
use Rattle.candidates.proofs.Searching.{same_tests}

-- the elements of one list are elements of the other, and the other way round
pub record HaveSame {X : Type 0} (xs ys : List X) : Type 0 where
  pub to : (x : X) → Contains xs x → Contains ys x
  pub back : (x : X) → Contains ys x → Contains xs x

-- some element passes alike
some_within : {X : Type 0} (p : X → Bool) (xs ys : List X) → ((x : X) → Contains xs x → Contains ys x) → list_any p xs ≡ true
    → list_any p ys ≡ true
some_within {X} p xs ys to some = Any-elim (λ (x : X). p x ≡ true) xs (list_any p ys ≡ true)
    (λ x within passes. list_any-from_contains p ys x (to x within) passes) (Any-from_list_any p xs some)

list_any-same : {X : Type 0} (p : X → Bool) (xs ys : List X) → HaveSame xs ys → list_any p xs ≡ list_any p ys
list_any-same p xs ys same = same_tests (list_any p xs) (list_any p ys) (some_within p xs ys same.to) (some_within p ys xs same.back)

-- the greatest is the greatest of the same
IsGreatest-same : {X : Type 0} (f : X → ℤ) (xs ys : List X) → HaveSame xs ys → (greatest : ℤ) → IsGreatest greatest (map f xs)
    → IsGreatest greatest (map f ys)
IsGreatest-same {X} f xs ys same greatest is = (
  (let from = Contains-map f xs greatest is.0 in
      subst (Contains (map f ys)) from.2 (Contains-map_intro f ys from.0 (same.to from.0 from.1))),
  All-intro (λ (number : ℤ). number ≤ℤ greatest) (map f ys) (λ number within.
      let from = Contains-map f ys number within in
      All-contains (λ (n : ℤ). n ≤ℤ greatest) (map f xs) number is.1
      (subst (Contains (map f xs)) from.2 (Contains-map_intro f xs from.0 (same.back from.0 from.1)))),
)

-- and there is one
IsGreatest-one : (numbers : List ℤ) (x y : ℤ) → IsGreatest x numbers → IsGreatest y numbers → x ≡ y
IsGreatest-one numbers x y one other =
    let below : y ≤ℤ x = All-contains (λ (n : ℤ). n ≤ℤ x) numbers y one.1 other.0 in
    let above : x ≤ℤ y = All-contains (λ (n : ℤ). n ≤ℤ y) numbers x other.1 one.0 in
    omega (arith, ints)

-- the same record decides
deciding_among-same : (preferences : List Preference) (name version : List ℕ) (xs ys : List Origin) → HaveSame xs ys
    → deciding_among preferences name version xs ≡ deciding_among preferences name version ys
deciding_among-same preferences name version xs ys same = find-agree
    (λ (preference : Preference). names_it name preference.names
    && list_any (λ (origin : Origin). pin_matches preference.pin version origin.release) xs)
    (λ (preference : Preference). names_it name preference.names
    && list_any (λ (origin : Origin). pin_matches preference.pin version origin.release) ys)
    (λ preference. ap (λ (b : Bool). names_it name preference.names && b)
    (list_any-same (λ (origin : Origin). pin_matches preference.pin version origin.release) xs ys same)) preferences

-- what a priority is, by the record that decides
abbrev PriorityBy : List Preference → Option (List ℕ) → List ℕ → List Origin → ℤ → Option Preference → Type 0
PriorityBy preferences target version origins priority decides = MatchOption decides
    (IsGreatest priority (map (priority_in preferences target version) origins)) (λ preference. priority ≡ preference.priority)

-- from the same origins a version has the same priority
pub HasPriorityAmong-same : (preferences : List Preference) (target : Option (List ℕ)) (name version : List ℕ) (xs ys : List Origin)
    → HaveSame xs ys → (priority : ℤ) → HasPriorityAmong preferences target name version xs priority
    → HasPriorityAmong preferences target name version ys priority
HasPriorityAmong-same preferences target name version xs ys same priority has =
    subst (PriorityBy preferences target version ys priority) (deciding_among-same preferences name version xs ys same)
    (at (deciding_among preferences name version xs) has)
  where
    at : (o : Option Preference) → PriorityBy preferences target version xs priority o → PriorityBy preferences target version ys priority o
    at None greatest = IsGreatest-same (priority_in preferences target version) xs ys same priority greatest
    at (Some preference) is = is

-- and it has one
pub HasPriorityAmong-one : (preferences : List Preference) (target : Option (List ℕ)) (name version : List ℕ) (origins : List Origin)
    (x y : ℤ) → HasPriorityAmong preferences target name version origins x → HasPriorityAmong preferences target name version origins y
    → x ≡ y
HasPriorityAmong-one preferences target name version origins x y one other = at (deciding_among preferences name version origins) one other
  where
    at : (o : Option Preference) → PriorityBy preferences target version origins x o → PriorityBy preferences target version origins y o → x ≡ y
    at None greatest greatest' = IsGreatest-one (map (priority_in preferences target version) origins) x y greatest greatest'
    at (Some preference) is is' = is ∙ sym is'
