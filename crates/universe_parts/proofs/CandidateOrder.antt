-- What a binary search finds among candidates in the order of their names.
use Rattle.std.proofs.Common.{◌≡◌, ℕ, true, List, [], length, Ok, Err, None, sym, ◌∙◌, bytes_eq}
use Rattle.std.specs.Cmp.{Equal-is}
use Rattle.std.specs.List.{find, slice_get}
use Rattle.std.specs.List.Sorted.{IsBinarySearchResult, IsSearchInRange, IsStrictlySortedBy}
use Rattle.std.specs.declared.cmp.Ordering.TheVariants.{Equal}
use Rattle.std.proofs.lemmas.List.Sorted.{searchable_from_sorted}
use Rattle.std.proofs.lemmas.Map.Text.{is_eq-slice_cmp}
use Rattle.rules.specs.Name.{name_cmp}
use Rattle.rules.specs.NamedLaws.{bytes_eq-true, bytes_eq-same}
use Rattle.rules.specs.Universe.{Candidate}
use Rattle.rules.specs.Universe.{candidate_cmp}
use Rattle.rules.specs.UniverseLaws.{candidate_cmp_total}
use Rattle.universe_parts.specs.FindLaws.{not_back, sorted-one}
use Rattle.universe_parts.specs.SearchLaws.{searched_find, searched_none}

-- candidates of one name tie
candidate_cmp-tied : (name : List ℕ) (candidate other : Candidate) → bytes_eq candidate.name name ≡ true → bytes_eq other.name name ≡ true
    → candidate_cmp candidate other ≡ Equal
candidate_cmp-tied name candidate other one two = (Equal-is (candidate_cmp candidate other)).0
    (is_eq-slice_cmp candidate.name other.name
    ∙ bytes_eq-same candidate.name other.name (bytes_eq-true candidate.name name one ∙ sym (bytes_eq-true other.name name two)))

-- the candidate at the place that a binary search finds is that of the name
pub searched_candidate : (candidates : List Candidate) (name : List ℕ) (i : ℕ) → IsStrictlySortedBy candidate_cmp candidates
    → IsSearchInRange (Ok i) (length candidates) → IsBinarySearchResult (λ (candidate : Candidate). name_cmp candidate.name name) candidates (Ok i)
    → slice_get candidates i ≡ find (λ candidate. bytes_eq candidate.name name) candidates
searched_candidate candidates name i ascending within result_is =
    searched_find (λ (candidate : Candidate). bytes_eq candidate.name name) (λ (candidate : Candidate). name_cmp candidate.name name) candidates i
    (λ candidate. is_eq-slice_cmp candidate.name name)
    (λ candidate other here there one two.
    sorted-one candidate_cmp_total candidates ascending candidate other here there (candidate_cmp-tied name candidate other one two))
    within result_is

-- a candidate without a version
abbrev unversioned : List ℕ → Candidate
unversioned name = record { name = name; version = [] }

-- where a binary search finds nothing, the name has no candidate
pub searched_no_candidate : (candidates : List Candidate) (name : List ℕ) (i : ℕ) → IsStrictlySortedBy candidate_cmp candidates
    → IsSearchInRange (Err i) (length candidates) → IsBinarySearchResult (λ (candidate : Candidate). name_cmp candidate.name name) candidates (Err i)
    → None ≡ find (λ candidate. bytes_eq candidate.name name) candidates
searched_no_candidate candidates name i ascending within result_is =
    sym (searched_none (λ (candidate : Candidate). bytes_eq candidate.name name) (λ (candidate : Candidate). name_cmp candidate.name name) candidates i
    (λ candidate. is_eq-slice_cmp candidate.name name)
    (searchable_from_sorted candidate_cmp_total (λ (candidate : Candidate). candidate) candidates (unversioned name)
    (not_back candidate_cmp candidate_cmp_total.antisymm candidates ascending)) within result_is)
