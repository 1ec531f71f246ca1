-- The place at which a binary search finds a pair is that of the first pair of its version.
use Rattle.std.proofs.Common.{◌≡◌, ℕ, zero, suc, ◌+◌, ◌<◌, Bool, true, false, List, [], ◌∷◌, length, get_or, position, Ok, Err, Some, None, refl, sym, ap, ◌∙◌, arith}
use Rattle.std.specs.Cmp.{tied_itself}
use Rattle.std.specs.List.{Contains, position_or_len}
use Rattle.std.specs.List.Sorted.{IsBinarySearchResult, IsSearchInRange, IsStrictlySortedBy}
use Rattle.std.specs.Ordering.{is_eq}
use Rattle.std.specs.declared.cmp.Ordering.TheVariants.{Less, Equal}
use Rattle.std.proofs.lemmas.Bool.{cases_Bool, le-ltb, lt-ltb}
use Rattle.std.proofs.lemmas.List.Elements.{Contains-get_or}
use Rattle.rules.specs.Available.{is_of}
use Rattle.rules.specs.ElementLaws.{Contains-head, Contains-rest}
use Rattle.rules.specs.Universe.{Pair, pair_cmp}
use Rattle.rules.specs.UniverseLaws.{pair_cmp_total}
use Rattle.rules.proofs.Rising.{AllPairs-rising}
use Rattle.universe_parts.specs.Pair.{pkg_order}
use Rattle.universe_parts.specs.Parts.{place_among}
use Rattle.universe_parts.specs.FindLaws.{find-none}
use Rattle.universe_parts.specs.PairLaws.{pkg_order-ties}
use Rattle.universe_parts.proofs.PairOrder.{one_pair, searched_no_pair}
use mathlib.Core.Logic.{inl, inr}

-- the first place at which the test passes
first_place : {X : Type 0} (p : X → Bool) (xs : List X) (i : ℕ) → i < length xs → ((d : X) → p (get_or xs i d) ≡ true)
    → ((k : ℕ) (d : X) → k < i → p (get_or xs k d) ≡ false) → position_or_len p xs ≡ i
first_place p [] i within passes before = absurd (omega arith)
first_place p (x ∷ xs) zero within passes before = rw (passes x) refl
first_place p (x ∷ xs) (suc i) within passes before =
    rw (before 0 x (omega arith)) (ap (λ n. 1 + n)
    (first_place p xs i (omega arith) passes (λ k d below. before (suc k) d (omega arith))) ∙ (let e : 1 + i ≡ suc i = omega arith in e))

placed : {X : Type 0} (p : X → Bool) (xs : List X) (i : ℕ) → i < length xs → position_or_len p xs ≡ i → Some i ≡ position p xs
placed p xs i within is = rw (is, lt-ltb i (length xs) within) refl

no_place : {X : Type 0} (p : X → Bool) (xs : List X) → ((x : X) → Contains xs x → p x ≡ false) → position_or_len p xs ≡ length xs
no_place p [] fails = refl
no_place p (x ∷ xs) fails = rw (fails x (Contains-head x xs))
    (ap (λ n. 1 + n) (no_place p xs (λ y there. fails y (Contains-rest x xs y there))) ∙ (let e : 1 + length xs ≡ suc (length xs) = omega arith in e))

not_placed : {X : Type 0} (p : X → Bool) (xs : List X) → position_or_len p xs ≡ length xs → None ≡ position p xs
not_placed p xs is = rw (is, le-ltb (length xs) (length xs) (omega arith)) refl

-- the pairs before the place are of other versions
pub searched_place : (pairs : List Pair) (name version : List ℕ) (i : ℕ) → IsStrictlySortedBy pair_cmp pairs
    → IsSearchInRange (Ok i) (length pairs) → IsBinarySearchResult (λ (pair : Pair). pkg_order pair.pkg name version) pairs (Ok i)
    → Some i ≡ place_among pairs name version
searched_place pairs name version i ascending within result_is =
    placed test pairs i within (first_place test pairs i within here before)
  where
    test : Pair → Bool
    test pair = is_of name version pair.pkg

    here : (d : Pair) → test (get_or pairs i d) ≡ true
    here d = sym (pkg_order-ties name version (get_or pairs i d).pkg) ∙ ap is_eq (result_is d)

    before : (k : ℕ) (d : Pair) → k < i → test (get_or pairs k d) ≡ false
    before k d below = elim (cases_Bool (test (get_or pairs k d))) [
      | inl passes ↦
          let low : Pair = get_or pairs k d in
          let high : Pair = get_or pairs i d in
          let less : pair_cmp low high ≡ Less = AllPairs-rising pair_cmp pairs ascending k i d below within in
          let same : low ≡ high = one_pair pairs name version ascending low high
          (Contains-get_or pairs k d (omega (arith, within))) (Contains-get_or pairs i d within) passes (here d) in
          let tied : pair_cmp low low ≡ Equal = tied_itself pair_cmp_total low in
          absurd (let e : Less ≡ Equal = sym less ∙ ap (pair_cmp low) (sym same) ∙ tied in cc)
      | inr fails ↦ fails
    ]

-- where a binary search finds nothing, no pair is of the version
pub searched_no_place : (pairs : List Pair) (name version : List ℕ) (i : ℕ) → IsStrictlySortedBy pair_cmp pairs
    → IsSearchInRange (Err i) (length pairs) → IsBinarySearchResult (λ (pair : Pair). pkg_order pair.pkg name version) pairs (Err i)
    → None ≡ place_among pairs name version
searched_no_place pairs name version i ascending within result_is = not_placed test pairs (no_place test pairs
    (find-none test pairs (sym (searched_no_pair pairs name version i ascending within result_is))))
  where
    test : Pair → Bool
    test pair = is_of name version pair.pkg
