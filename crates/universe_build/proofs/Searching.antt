-- What a binary search finds among what is sought, and that a goal is unknown alike among the records and stanzas in order.
use Rattle.std.proofs.Common.{◌≡◌, ℕ, Bool, false, not, ◌&&◌, List, length, Result, Option, Some, None, refl, ap, ◌∙◌}
use Rattle.std.specs.Prelude.{is_ok}
use Rattle.std.specs.Cmp.{on_total}
use Rattle.std.specs.List.{list_any}
use Rattle.std.specs.List.Sorted.{IsBinarySearchResult, IsSearchInRange, IsSorted, IsStrictlySortedBy}
use Rattle.std.specs.Option.{option_map, option_map_or}
use Rattle.std.specs.Ordering.{is_eq, ordering_reverse}
use Rattle.std.specs.declared.cmp.Ordering.{Ordering}
use Rattle.std.specs.declared.cmp.Ordering.TheVariants.{Less, Equal, Greater}
use Rattle.std.proofs.lemmas.List.Sorted.{searchable_from_sorted}
use Rattle.std.proofs.lemmas.Map.Text.{is_eq-slice_cmp}
use Rattle.rules.specs.Available.{is_of, same_version}
use Rattle.rules.specs.Database.{Record}
use Rattle.rules.specs.Name.{name_cmp}
use Rattle.rules.specs.State.{is_not_installed_state}
use Rattle.rules.specs.Step.{IndexPackage}
use Rattle.rules.specs.Version.{version_cmp}
use Rattle.rules.specs.declared.goal.Goal.{Goal}
use Rattle.rules.specs.declared.goal.GoalLine.{GoalLine}
use Rattle.universe_parts.specs.PairLaws.{is_eq-then}
use Rattle.universe_parts.specs.SearchLaws.{searched_any}
use Rattle.candidates.specs.Recorded.{IsByName, is_recorded}
use Rattle.candidates.specs.Stanza.{IsOrdered, has_name}
use Rattle.universe_parts.specs.FindLaws.{find-agree, not_back}
use Rattle.candidates.proofs.Searching.{has_name-ordered}
use Rattle.rules.specs.VersionOrderLaws.{version_cmp_total}
use Rattle.candidates.specs.Eligible.{offer_version_cmp}
use Rattle.candidates.specs.Offer.{Offer}
use Rattle.universe_build.specs.ByName.{is_version_of}
use Rattle.universe_build.specs.Build.{first_unknown, is_unknown, named_by}
use Rattle.universe_build.specs.Choice.{Exact, exact_at, exact_cmp, is_asked}
use Rattle.universe_build.specs.ChoiceLaws.{exact_cmp_total}

-- tied either way round
is_eq-reverse : (o : Ordering) → is_eq (ordering_reverse o) ≡ is_eq o
is_eq-reverse Less = refl
is_eq-reverse Equal = refl
is_eq-reverse Greater = refl

-- what is sought ties with just the stanzas of that name and version
exact_ties : (exact : Exact) (stanza : IndexPackage)
    → is_eq (exact_cmp exact (exact_at stanza)) ≡ is_of exact.name exact.version stanza.pkg
exact_ties exact stanza = ap is_eq (exact_cmp_total.antisymm exact (exact_at stanza))
    ∙ is_eq-reverse (exact_cmp (exact_at stanza) exact)
    ∙ is_eq-then (name_cmp stanza.pkg.name exact.name) (version_cmp stanza.pkg.version exact.version)
    ∙ ap (λ (b : Bool). b && same_version stanza.pkg.version exact.version) (is_eq-slice_cmp stanza.pkg.name exact.name)

-- a binary search in what is sought tells whether the stanza is one
pub searched_exact : (exacts : List Exact) (stanza : IndexPackage) (r : Result ℕ ℕ) → IsSorted exact_cmp exacts
    → IsSearchInRange r (length exacts) → IsBinarySearchResult (λ exact. exact_cmp exact (exact_at stanza)) exacts r
    → is_ok r ≡ is_asked exacts stanza
searched_exact exacts stanza r ascending within at =
    searched_any (λ (exact : Exact). is_of exact.name exact.version stanza.pkg) (λ (exact : Exact). exact_cmp exact (exact_at stanza))
    exacts r (λ exact. exact_ties exact stanza)
    (searchable_from_sorted exact_cmp_total (λ (exact : Exact). exact) exacts (exact_at stanza) ascending) within at

-- among records and stanzas that have the same names a goal is unknown alike
is_unknown-agree : (start known : List Record) (listed other : List IndexPackage)
    → ((name : List ℕ) → is_recorded start name ≡ is_recorded known name)
    → ((name : List ℕ) → has_name listed name ≡ has_name other name) → (asked : Goal)
    → is_unknown start listed asked ≡ is_unknown known other asked
is_unknown-agree start known listed other alike same asked = at (named_by asked)
  where
    at : (o : Option (List ℕ)) → option_map_or (λ name. not (has_name listed name) && not (is_recorded start name)) o false
        ≡ option_map_or (λ name. not (has_name other name) && not (is_recorded known name)) o false
    at None = refl
    at (Some name) = ap (λ (b : Bool). not b && not (is_recorded start name)) (same name)
        ∙ ap (λ (b : Bool). not (has_name other name) && not b) (alike name)

-- among the records and the stanzas in order the first unknown name is that among all
pub first_unknown-ordered : (start known : List Record) (listed ordered : List IndexPackage) → IsByName start known
    → IsOrdered listed ordered → (lines : List GoalLine) → first_unknown known ordered lines ≡ first_unknown start listed lines
first_unknown-ordered start known listed ordered are is lines = ap (option_map (λ (asked : GoalLine). asked.line))
    (find-agree (λ (asked : GoalLine). is_unknown known ordered asked.goal) (λ (asked : GoalLine). is_unknown start listed asked.goal)
    (λ asked. is_unknown-agree known start ordered listed
    (λ name. ap (λ (o : Option Record). option_map_or (λ entry. not (is_not_installed_state entry.state)) o false) (are.same name))
    (has_name-ordered listed ordered is) asked.goal) lines)

-- a binary search among versions that ascend tells whether one is that of the stanza
pub searched_offer : (offers : List Offer) (stanza : IndexPackage) (r : Result ℕ ℕ) → IsStrictlySortedBy offer_version_cmp offers
    → IsSearchInRange r (length offers) → IsBinarySearchResult (λ offer. version_cmp offer.version stanza.pkg.version) offers r
    → is_ok r ≡ list_any (is_version_of stanza) offers
searched_offer offers stanza r ascending within at =
    searched_any (is_version_of stanza) (λ (offer : Offer). version_cmp offer.version stanza.pkg.version) offers r (λ offer. refl)
    (searchable_from_sorted version_cmp_total (λ (offer : Offer). offer.version) offers stanza.pkg.version
    (not_back offer_version_cmp (on_total (λ (offer : Offer). offer.version) version_cmp_total).antisymm offers ascending)) within at
