-- What is found among the offers of packages, in order: who matches, and how many versions are looked among.
use Rattle.std.proofs.Common.{◌≡◌, ◌↔◌, ℕ, ◌<◌, ◌≤◌, false, List, Contains, Result, Ok, Err, IfOk, length, map, is_some, refl, sym, ap, subst, ◌∙◌}
use Rattle.std.specs.List.{filter}
use Rattle.std.specs.List.Sorted.{IsStrictlyIncreasing, IsStrictlySortedBy}
use Rattle.std.specs.Ordering.{nat_cmp}
use Rattle.std.proofs.lemmas.Cmp.{nat_cmp_total}
use Rattle.std.proofs.lemmas.Map.Keys.{sorted_from_strictly_increasing}
use Rattle.index.proofs.ProviderLemmas.{providers-ascend, providers-match}
use Rattle.index.specs.Providers.{IsProviderAt, plain_atom, providers_of}
use Rattle.rules.proofs.Rising.{AllPairs-rising, same_rising}
use Rattle.rules.specs.Package.{Atom, Pkg}
use Rattle.providers.proofs.OfferLemmas.{places_match}
use Rattle.providers.proofs.RunLemmas.{IsRun-of_name, all_meet, fitting_is, versioned_fewer, versioned_some}
use Rattle.providers.specs.Matching.{IsMatchAt, fits, meets}
use Rattle.providers.specs.Offers.{AreOrdered, Offer, is_offer_of, offer_cmp, offers_of, versioned_of}
use Rattle.providers.specs.Range.{IsRun}

-- what follows of a value holds of the one that is answered
pub of_value : {A E : Type 0} {P Q : A → Type 0} (r : Result A E) → ((a : A) → P a → Q a) → IfOk r P → IfOk r Q
of_value (Ok a) follows holds = follows a holds
of_value (Err e) follows holds = tt

abbrev pub places_in : List Offer → List ℕ
places_in offers = map (λ offer. offer.place) offers

-- the offers of a name among offers that are lent
module _ (packages kept : List Pkg) (offers slice : List Offer) (are : AreOrdered (offers_of kept) offers) (known : kept ≡ packages) (lent : slice ≡ offers) where
  pub slice_ascends : IsStrictlySortedBy offer_cmp slice
  slice_ascends = subst (IsStrictlySortedBy offer_cmp) (sym lent) are.ascending

  are_now : AreOrdered (offers_of packages) slice
  are_now = subst (λ (ps : List Pkg). AreOrdered (offers_of ps) slice) known (subst (AreOrdered (offers_of kept)) (sym lent) are)

  module _ (name : List ℕ) (run : List Offer) (cut : run ≡ filter (is_offer_of name) slice) where
    pub run_is_one : IsRun run
    run_is_one = subst IsRun (sym cut) (IsRun-of_name name slice slice_ascends)

    pub run_counts : length (filter (λ offer. is_some offer.version) run) ≤ length (versioned_of name packages)
    run_counts = subst (λ (offers : List Offer). length (filter (λ offer. is_some offer.version) offers) ≤ length (versioned_of name packages)) (sym cut)
        (versioned_fewer name packages slice are_now)

    pub run_has_versions : 0 < length (versioned_of name packages) → 0 < length (filter (λ offer. is_some offer.version) run)
    run_has_versions some = subst (λ (offers : List Offer). 0 < length (filter (λ offer. is_some offer.version) offers)) (sym cut)
        (versioned_some name packages slice are_now some)

  pub found_match : (atom : Atom) (run fitting : List Offer) → run ≡ filter (is_offer_of atom.name) slice → fitting ≡ filter (meets atom.restriction) run
      → atom.foreign ≡ false → (place : ℕ) → Contains (places_in fitting) place ↔ IsMatchAt packages atom place
  found_match atom run fitting cut kept own place =
      let same : fitting ≡ filter (fits atom) slice = kept ∙ ap (filter (meets atom.restriction)) cut ∙ fitting_is atom slice in
      subst (λ (offers : List Offer). Contains (places_in offers) place ↔ IsMatchAt packages atom place) (sym same)
      (places_match atom packages slice are_now.same own place)

  pub found_named : (name : List ℕ) (run : List Offer) → run ≡ filter (is_offer_of name) slice → (place : ℕ)
      → Contains (places_in run) place ↔ IsProviderAt name packages place
  found_named name run cut place = found_match (plain_atom name) run run cut (sym (all_meet run)) refl place

-- places that ascend and are those of the providers are these
pub are_providers : (name : List ℕ) (packages : List Pkg) (places : List ℕ) → IsStrictlyIncreasing places
    → ((place : ℕ) → Contains places place ↔ IsProviderAt name packages place) → places ≡ providers_of name packages
are_providers name packages places up same = same_rising nat_cmp nat_cmp_total places (providers_of name packages)
    (AllPairs-rising nat_cmp places (sorted_from_strictly_increasing places up))
    (AllPairs-rising nat_cmp (providers_of name packages) (sorted_from_strictly_increasing (providers_of name packages) (providers-ascend name packages)))
    (λ place within. (providers-match name packages place).1 ((same place).0 within))
    (λ place within. (same place).1 ((providers-match name packages place).0 within))

-- an answer that ascends and has the providers' places has these
pub named_exact : {A E : Type 0} (places_of : A → List ℕ) (name : List ℕ) (packages : List Pkg) (r : Result A E)
    → IfOk r (λ a. (place : ℕ) → Contains (places_of a) place ↔ IsProviderAt name packages place) → IfOk r (λ a. IsStrictlyIncreasing (places_of a))
    → IfOk r (λ a. places_of a ≡ providers_of name packages)
named_exact places_of name packages (Ok a) same up = are_providers name packages (places_of a) up same
named_exact places_of name packages (Err e) same up = tt
