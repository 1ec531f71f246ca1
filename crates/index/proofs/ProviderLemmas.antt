-- Who provides a name: the test decides the match, and its positions ascend and are met one after another.
use Rattle.std.proofs.Common.{◌≡◌, ◌↔◌, ℕ, ◌+◌, ◌<◌, Bool, true, false, not, ◌&&◌, ◌||◌, ◌⊎◌, List, length, get_or, Option, Some, None, Contains, slice_get, refl, ◌∙◌, arith, bytes_eq, inl, inr}
use Rattle.std.specs.List.{list_any, range_with_len}
use Rattle.std.specs.List.Sorted.{IsStrictlyIncreasing, IsStrictlySortedBy}
use Rattle.std.specs.Option.{option_map_or}
use Rattle.std.specs.Ordering.{nat_cmp}
use Rattle.std.proofs.lemmas.List.FromFn.{get_or-range_with_len, length-range_with_len}
use Rattle.std.proofs.lemmas.List.Kept.{IsStrictlySortedBy-filter}
use Rattle.std.proofs.lemmas.Map.Keys.{IsStrictlyIncreasing-from_sorted, sorted_from_strictly_increasing}
use Rattle.std.proofs.lemmas.Option.{slice_get_within}
use Rattle.rules.specs.ElementLaws.{Any-elim, Any-from_list_any, Any-weaker, Contains-filter, Contains-filter_intro, list_any-from_contains}
use Rattle.rules.specs.NamedLaws.{bytes_eq-same, bytes_eq-true}
use Rattle.rules.specs.Package.{Atom, FitsByName, FitsByProvides, FitsProvided, Matches, Pkg, Provided}
use Rattle.index.specs.Providers.{IsProviderAt, is_item_of, is_provider, is_provider_at, plain_atom, providers_of}

both : (a b : Bool) → (not a && b) ≡ true → (a ≡ false) × (b ≡ true)
both false b passes = (refl, passes)
both true b passes = absurd (let e : false ≡ true = passes in cc)

either : (a b : Bool) → (a || b) ≡ true → (a ≡ true) ⊎ (b ≡ true)
either true b passes = inl refl
either false b passes = inr passes

or_true : (a b : Bool) → b ≡ true → (a || b) ≡ true
or_true true b h = refl
or_true false b h = h

-- an item that provides the name fits its atom, and only such a one
fits-test : (name : List ℕ) (item : Provided) → is_item_of name item ≡ true → FitsProvided item (plain_atom name)
unfolding FitsProvided
fits-test name item passes = let parts = both item.foreign (bytes_eq item.name name) passes in
    (parts.0, bytes_eq-true item.name name parts.1, tt)

test-fits : (name : List ℕ) (item : Provided) → FitsProvided item (plain_atom name) → is_item_of name item ≡ true
unfolding FitsProvided
test-fits name item fits = rw (fits.0, bytes_eq-same item.name name fits.1) refl

-- a package that has or provides the name matches its atom, and only such a one
pub matches-test : (name : List ℕ) (pkg : Pkg) → is_provider name pkg ≡ true → Matches pkg (plain_atom name)
unfolding Matches FitsByName FitsByProvides
matches-test name pkg passes = (
  refl,
  elim (either (bytes_eq pkg.name name) (list_any (is_item_of name) pkg.relations.provides) passes) [
    | inl same ↦ inl (bytes_eq-true pkg.name name same, tt)
    | inr some ↦ inr (Any-weaker (λ item. is_item_of name item ≡ true) (λ item. FitsProvided item (plain_atom name)) pkg.relations.provides
        (λ item within holds. fits-test name item holds) (Any-from_list_any (is_item_of name) pkg.relations.provides some))
  ],
)

pub test-matches : (name : List ℕ) (pkg : Pkg) → Matches pkg (plain_atom name) → is_provider name pkg ≡ true
unfolding Matches FitsByName FitsByProvides
test-matches name pkg matches = elim matches.1 [
  | inl own ↦ rw (bytes_eq-same pkg.name name own.0) refl
  | inr some ↦ or_true (bytes_eq pkg.name name) (list_any (is_item_of name) pkg.relations.provides)
      (Any-elim (λ item. FitsProvided item (plain_atom name)) pkg.relations.provides (list_any (is_item_of name) pkg.relations.provides ≡ true)
      (λ item within fits. list_any-from_contains (is_item_of name) pkg.relations.provides item within (test-fits name item fits)) some)
]

-- a range from 0 has the numbers below its length
range_has : (count place : ℕ) → place < count → Contains (range_with_len 0 count) place
range_has count place below = (place, omega (arith, below, length-range_with_len 0 count), (let e : 0 + place ≡ place = omega arith in get_or-range_with_len 0 count place place below ∙ e))

-- and ascends
range_ascends : (count : ℕ) → IsStrictlySortedBy nat_cmp (range_with_len 0 count)
range_ascends count = sorted_from_strictly_increasing (range_with_len 0 count) (λ k within.
    let here : get_or (range_with_len 0 count) k 0 ≡ 0 + k = get_or-range_with_len 0 count k 0 (omega (arith, within, length-range_with_len 0 count)) in
    let next : get_or (range_with_len 0 count) (k + 1) 0 ≡ 0 + (k + 1) = get_or-range_with_len 0 count (k + 1) 0 (omega (arith, within, length-range_with_len 0 count)) in
    omega (arith, here, next))

-- the positions of providers ascend
pub providers-ascend : (name : List ℕ) (packages : List Pkg) → IsStrictlyIncreasing (providers_of name packages)
providers-ascend name packages = IsStrictlyIncreasing-from_sorted (providers_of name packages)
    (IsStrictlySortedBy-filter nat_cmp (is_provider_at name packages) (range_with_len 0 (length packages)) (range_ascends (length packages)))

-- the positions of providers are those at which a package matches
pub providers-match : (name : List ℕ) (packages : List Pkg) (place : ℕ) → Contains (providers_of name packages) place ↔ IsProviderAt name packages place
providers-match name packages place = (to, back)
  where
    passed : (item : Option Pkg) → slice_get packages place ≡ item → option_map_or (is_provider name) item false ≡ true → IsProviderAt name packages place
    passed None e passes = absurd (let f : false ≡ true = passes in cc)
    passed (Some pkg) e passes = (pkg, e, matches-test name pkg passes)

    to : Contains (providers_of name packages) place → IsProviderAt name packages place
    to within = passed (slice_get packages place) refl (Contains-filter (is_provider_at name packages) (range_with_len 0 (length packages)) place within).1

    back : IsProviderAt name packages place → Contains (providers_of name packages) place
    back at = Contains-filter_intro (is_provider_at name packages) (range_with_len 0 (length packages)) place
        (range_has (length packages) place (slice_get_within packages place at.0 at.1))
        (rw at.1 (test-matches name at.0 at.2))

-- a package that matches an atom matches its name without a restriction
pub of_atom : (pkg : Pkg) (atom : Atom) → Matches pkg atom → Matches pkg (plain_atom atom.name)
unfolding Matches FitsByName FitsByProvides FitsProvided
of_atom pkg atom (native, either) = (
  refl,
  elim either [
    | inl fits ↦ inl (fits.0, tt)
    | inr some ↦ inr (Any-weaker (λ item. FitsProvided item atom) (λ item. FitsProvided item (plain_atom atom.name)) pkg.relations.provides
        (λ item within fits. (fits.0, fits.1, tt)) some)
  ],
)
