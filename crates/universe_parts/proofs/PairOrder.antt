-- What a binary search finds among pairs in order.
use Rattle.std.proofs.Common.{◌≡◌, ℕ, Bool, true, ◌&&◌, List, length, Result, Ok, Err, None, refl, sym, ap, ◌∙◌, bytes_eq}
use Rattle.std.specs.Cmp.{Equal-is}
use Rattle.std.specs.List.{Contains, find, list_any, slice_get}
use Rattle.std.specs.Prelude.{is_ok}
use Rattle.std.specs.List.Sorted.{IsBinarySearchResult, IsSearchInRange, IsStrictlySortedBy}
use Rattle.std.specs.declared.cmp.Ordering.TheVariants.{Equal}
use Rattle.std.proofs.lemmas.List.Sorted.{searchable_from_sorted}
use Rattle.rules.specs.Available.{is_of}
use Rattle.rules.specs.Step.{no_relations}
use Rattle.rules.specs.Universe.{IsOf, Pair, pair_cmp}
use Rattle.universe_parts.specs.Pair.{pkg_order}
use Rattle.rules.specs.UniverseLaws.{pair_cmp_total}
use Rattle.universe_parts.specs.FindLaws.{not_back, sorted-one}
use Rattle.universe_parts.specs.PairLaws.{is_of-from, is_of-parts, pkg_order-ties, same_pair}
use Rattle.universe_parts.specs.SearchLaws.{searched_any, searched_find, searched_none}

-- two pairs of one name and version tie
pair_cmp-tied : (pair other : Pair) → IsOf other.pkg.name other.pkg.version pair.pkg → pair_cmp pair other ≡ Equal
pair_cmp-tied pair other of = (Equal-is (pair_cmp pair other)).0
    (pkg_order-ties other.pkg.name other.pkg.version pair.pkg ∙ is_of-from other.pkg.name other.pkg.version pair.pkg of)

-- of one version of a name there is one pair in order
pub one_pair : (pairs : List Pair) (name version : List ℕ) → IsStrictlySortedBy pair_cmp pairs → (pair other : Pair)
    → Contains pairs pair → Contains pairs other → is_of name version pair.pkg ≡ true → is_of name version other.pkg ≡ true
    → pair ≡ other
one_pair pairs name version ascending pair other one two of of' = sorted-one pair_cmp_total pairs ascending pair other one two
    (pair_cmp-tied pair other (same_pair name version pair.pkg other.pkg (is_of-parts name version pair.pkg of) (is_of-parts name version other.pkg of')))

-- the pair at the place that a binary search finds is that of the version
pub searched_pair : (pairs : List Pair) (name version : List ℕ) (i : ℕ) → IsStrictlySortedBy pair_cmp pairs
    → IsSearchInRange (Ok i) (length pairs) → IsBinarySearchResult (λ (pair : Pair). pkg_order pair.pkg name version) pairs (Ok i)
    → slice_get pairs i ≡ find (λ pair. is_of name version pair.pkg) pairs
searched_pair pairs name version i ascending within result_is =
    searched_find (λ (pair : Pair). is_of name version pair.pkg) (λ (pair : Pair). pkg_order pair.pkg name version) pairs i
    (λ pair. pkg_order-ties name version pair.pkg) (λ pair other. one_pair pairs name version ascending pair other) within result_is

-- a pair without relations
abbrev bare : List ℕ → List ℕ → Pair
bare name version = record { pkg = record { name = name; version = version; relations = no_relations }; listed = None }

-- where a binary search finds nothing, no pair is of the version
pub searched_no_pair : (pairs : List Pair) (name version : List ℕ) (i : ℕ) → IsStrictlySortedBy pair_cmp pairs
    → IsSearchInRange (Err i) (length pairs) → IsBinarySearchResult (λ (pair : Pair). pkg_order pair.pkg name version) pairs (Err i)
    → None ≡ find (λ pair. is_of name version pair.pkg) pairs
searched_no_pair pairs name version i ascending within result_is =
    sym (searched_none (λ (pair : Pair). is_of name version pair.pkg) (λ (pair : Pair). pkg_order pair.pkg name version) pairs i
    (λ pair. pkg_order-ties name version pair.pkg)
    (searchable_from_sorted pair_cmp_total (λ (pair : Pair). pair) pairs (bare name version)
    (not_back pair_cmp pair_cmp_total.antisymm pairs ascending)) within result_is)

-- a binary search tells whether a pair is of the version
pub searched_any_pair : (pairs : List Pair) (name version : List ℕ) (r : Result ℕ ℕ) → IsStrictlySortedBy pair_cmp pairs
    → IsSearchInRange r (length pairs) → IsBinarySearchResult (λ (pair : Pair). pkg_order pair.pkg name version) pairs r
    → is_ok r ≡ list_any (λ pair. is_of name version pair.pkg) pairs
searched_any_pair pairs name version r ascending within result_is =
    searched_any (λ (pair : Pair). is_of name version pair.pkg) (λ (pair : Pair). pkg_order pair.pkg name version) pairs r
    (λ pair. pkg_order-ties name version pair.pkg)
    (searchable_from_sorted pair_cmp_total (λ (pair : Pair). pair) pairs (bare name version)
    (not_back pair_cmp pair_cmp_total.antisymm pairs ascending)) within result_is
