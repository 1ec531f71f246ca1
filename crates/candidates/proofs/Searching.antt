-- What a binary search finds among names, and that the stanzas in order have the names of all.
use Rattle.std.proofs.Common.{◌≡◌, ℕ, ◌+◌, Bool, true, false, List, length, get_or, Result, refl, sym, ap, ◌∙◌, arith, bytes_eq}
use Rattle.std.specs.Prelude.{is_ok}
use Rattle.std.specs.Cmp.Lexicographic.{nat_list_cmp_total}
use Rattle.std.specs.List.Sorted.{IsBinarySearchResult, IsSearchInRange, IsSortedBy, IsStrictlySortedBy}
use Rattle.std.specs.Ordering.{is_lt, ordering_reverse, ordering_then}
use Rattle.std.specs.declared.cmp.Ordering.{Ordering}
use Rattle.std.specs.declared.cmp.Ordering.TheVariants.{Less, Equal, Greater}
use Rattle.std.proofs.lemmas.List.Sorted.{searchable_from_sorted}
use Rattle.std.proofs.lemmas.Map.Keys.{Less-from_sorted}
use Rattle.std.proofs.lemmas.Map.Text.{is_eq-slice_cmp}
use Rattle.rules.specs.Available.{is_of}
use Rattle.rules.specs.ElementLaws.{Any-elim, Any-from_list_any, list_any-from_contains}
use Rattle.rules.specs.Name.{name_cmp}
use Rattle.rules.specs.Step.{IndexPackage}
use Rattle.rules.specs.Version.{version_cmp}
use Rattle.universe_parts.specs.FindLaws.{find-some}
use Rattle.universe_parts.specs.PairLaws.{of_itself}
use Rattle.universe_parts.specs.SearchLaws.{searched_any}
use Rattle.candidates.specs.Stanza.{IsOrdered, has_name, listed_cmp}
use Rattle.candidates.proofs.Ordered.{found_ordered, ordered_stanza}

-- of two in a row, the second isn't before the first
not_before : (o v : Ordering) → ordering_then o v ≡ Less → is_lt (ordering_reverse o) ≡ false
not_before Less v first = refl
not_before Equal v first = refl
not_before Greater v first = absurd (let e : Greater ≡ Less = first in cc)

-- stanzas in order are in the order of their names
sorted_names : (ordered : List IndexPackage) → IsStrictlySortedBy listed_cmp ordered
    → IsSortedBy (λ a b. is_lt (name_cmp a.pkg.name b.pkg.name)) ordered
sorted_names ordered ascending k d low high =
    let first : IndexPackage = get_or ordered k d in
    let next : IndexPackage = get_or ordered (k + 1) d in
    let below : listed_cmp first next ≡ Less = Less-from_sorted listed_cmp ordered k (k + 1) d ascending (omega arith) high in
    ap is_lt (nat_list_cmp_total.antisymm next.pkg.name first.pkg.name)
    ∙ not_before (name_cmp first.pkg.name next.pkg.name) (version_cmp first.pkg.version next.pkg.version) below

-- a binary search among stanzas in order tells whether one has the name
pub searched_name : (ordered : List IndexPackage) (name : List ℕ) (r : Result ℕ ℕ) → IsStrictlySortedBy listed_cmp ordered
    → IsSearchInRange r (length ordered) → IsBinarySearchResult (λ stanza. name_cmp stanza.pkg.name name) ordered r
    → is_ok r ≡ has_name ordered name
searched_name ordered name r ascending within is =
    searched_any (λ (stanza : IndexPackage). bytes_eq stanza.pkg.name name) (λ (stanza : IndexPackage). name_cmp stanza.pkg.name name) ordered r
    (λ stanza. is_eq-slice_cmp stanza.pkg.name name)
    (searchable_from_sorted nat_list_cmp_total (λ (stanza : IndexPackage). stanza.pkg.name) ordered name (sorted_names ordered ascending))
    within is

-- one test passes where the other does
pub same_tests : (a b : Bool) → (a ≡ true → b ≡ true) → (b ≡ true → a ≡ true) → a ≡ b
same_tests true b to back = sym (to refl)
same_tests false true to back = back refl
same_tests false false to back = refl

-- the stanzas in order have the names of all stanzas
pub has_name-ordered : (listed ordered : List IndexPackage) → IsOrdered listed ordered → (name : List ℕ)
    → has_name ordered name ≡ has_name listed name
has_name-ordered listed ordered is name = same_tests (has_name ordered name) (has_name listed name)
    (λ some. Any-elim named ordered (has_name listed name ≡ true)
    (λ stanza within passes.
    let at = find-some (λ (other : IndexPackage). is_of stanza.pkg.name stanza.pkg.version other.pkg) listed stanza
    (found_ordered listed ordered is stanza within stanza.pkg.name stanza.pkg.version (of_itself stanza.pkg)) in
    list_any-from_contains has listed stanza at.0 passes)
    (Any-from_list_any has ordered some))
    (λ some. Any-elim named listed (has_name ordered name ≡ true)
    (λ stanza within passes.
    let there = ordered_stanza listed ordered is stanza within stanza.pkg.name stanza.pkg.version (of_itself stanza.pkg) in
    list_any-from_contains has ordered there.0 there.1 (ap (λ (n : List ℕ). bytes_eq n name) there.2.0 ∙ passes))
    (Any-from_list_any has listed some))
  where
    has : IndexPackage → Bool
    has stanza = bytes_eq stanza.pkg.name name

    named : IndexPackage → Type 0
    named stanza = has stanza ≡ true
