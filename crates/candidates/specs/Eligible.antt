-- The versions that may be chosen by themselves: those with a priority above 0 that aren't lower than the one that stands
-- with a priority below 1000 (apt_preferences(5); the bounds are this project's own).
use Rattle.std.specs.Prelude.{◌≡◌, ℕ, ℤ, List}
use Rattle.std.specs.List.{Any, Contains}
use Rattle.std.specs.List.Sorted.{IsStrictlySortedBy}
use Rattle.std.specs.Ordering.{on}
use Rattle.std.specs.declared.cmp.Ordering.{Ordering}
use Rattle.rules.specs.Available.{Inputs}
use Rattle.rules.specs.Priority.{IsEligible}
use Rattle.rules.specs.Universe.{IsKeptText}
use Rattle.rules.specs.Version.{SameVersion, version_cmp}
use Rattle.candidates.specs.Offer.{Offer}

-- the order of versions of offers
abbrev pub offer_version_cmp : Offer → Offer → Ordering
offer_version_cmp = on (λ offer. offer.version) version_cmp

-- the offers in the order of their versions, and of those of one version one alone
pub record AreByVersion (offers ordered : List Offer) : Type 0 where
  pub ascending : IsStrictlySortedBy offer_version_cmp ordered
  pub drawn : (offer : Offer) → Contains ordered offer → Contains offers offer
  pub covered : (offer : Offer) → Contains offers offer → Any (λ other. SameVersion other.version offer.version) ordered

-- the offer is of the version, with this priority
abbrev pub IsOffer : List ℕ → ℤ → Offer → Type 0
IsOffer version priority offer = SameVersion offer.version version × (offer.priority ≡ priority)

-- the offers are the versions of the name that may be chosen, each once, with its priority and in the text that is kept, and
-- they ascend by version
pub record AreEligibleOf (inputs : Inputs) (name : List ℕ) (offers : List Offer) : Type 0 where
  pub ascending : IsStrictlySortedBy offer_version_cmp offers
  pub named : (offer : Offer) → Contains offers offer → offer.name ≡ name
  pub drawn : (offer : Offer) → Contains offers offer → IsEligible inputs name offer.version offer.priority
  pub kept : (offer : Offer) → Contains offers offer → IsKeptText inputs name offer.version
  pub covered : (version : List ℕ) (priority : ℤ) → IsEligible inputs name version priority
      → Any (IsOffer version priority) offers
