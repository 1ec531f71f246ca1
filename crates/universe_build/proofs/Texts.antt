-- Texts of one version may be chosen alike, and are candidates alike.
use Rattle.std.proofs.Common.{◌≡◌, ℕ, ℤ, List, Option, MatchOption, refl, subst, ◌∙◌, arith}
use Rattle.std.specs.Ordering.{ordering_reverse}
use Rattle.std.specs.declared.cmp.Ordering.{Ordering}
use Rattle.std.specs.declared.cmp.Ordering.TheVariants.{Less, Equal, Greater}
use Rattle.std.proofs.lemmas.Int.{ints}
use Rattle.rules.specs.Available.{Inputs}
use Rattle.rules.specs.Database.{HasRecord, Record, Stands}
use Rattle.rules.specs.ElementLaws.{Any-elim, Any-intro}
use Rattle.rules.specs.Package.{Pkg}
use Rattle.rules.specs.Priority.{HasPriority, HasPriorityAs, IsCandidate, IsDowngrade, IsEligible, IsUpTo}
use Rattle.rules.specs.Version.{SameVersion, version_cmp}
use Rattle.rules.specs.VersionOrderLaws.{SameVersion-refl, version_cmp-antisymm, version_cmp-same_left}
use Rattle.rules.proofs.UniverseLemmas.{same_counting_package}
use Rattle.candidates.proofs.Priorities.{up_to-same}
use mathlib.Core.Logic.{inl, inr}

IsDowngrade-same : (inputs : Inputs) (name version other : List ℕ) → SameVersion version other → IsDowngrade inputs name other
    → IsDowngrade inputs name version
unfolding IsDowngrade
IsDowngrade-same inputs name version other same some =
    Any-elim (λ (entry : Record). (entry.name ≡ name) × (Stands entry × (version_cmp other entry.version ≡ Less))) inputs.start
    (HasRecord (λ entry. Stands entry × (version_cmp version entry.version ≡ Less)) name inputs.start)
    (λ entry within is.
    Any-intro (λ (entry : Record). (entry.name ≡ name) × (Stands entry × (version_cmp version entry.version ≡ Less))) inputs.start entry within
    (is.0, (is.1.0, version_cmp-same_left version other entry.version same ∙ is.1.1))) some

pub IsEligible-same : (inputs : Inputs) (name version other : List ℕ) (priority : ℤ) → SameVersion version other
    → IsEligible inputs name version priority → IsEligible inputs name other priority
unfolding IsEligible HasPriority
IsEligible-same inputs name version other priority same may = (
  subst (λ (o : Option Pkg). MatchOption o ⊥ (λ (pkg : Pkg). HasPriorityAs inputs name pkg.version priority))
      (same_counting_package inputs name version other same) may.0,
  may.1,
  λ below down. may.2 below (IsDowngrade-same inputs name version other same down),
)

pub IsCandidate-same : (inputs : Inputs) (name version other : List ℕ) (priority : ℤ) → SameVersion version other
    → IsCandidate inputs name version priority → IsCandidate inputs name other priority
IsCandidate-same inputs name version other priority same candidate = record {
  eligible = IsEligible-same inputs name version other priority same candidate.eligible;
  greatest = λ another another_priority may.
      up_to-same another version another other another_priority priority (SameVersion-refl another) same
      (candidate.greatest another another_priority may);
}

-- of two that aren't after each other the versions are the same
neither : (o p : Ordering) → o ≡ ordering_reverse p → (o ≡ Greater → ⊥) → (p ≡ Greater → ⊥) → o ≡ Equal
neither Less Less turned up down = absurd (let e : Less ≡ Greater = turned in cc)
neither Less Equal turned up down = absurd (let e : Less ≡ Equal = turned in cc)
neither Less Greater turned up down = absurd (down refl)
neither Equal p turned up down = refl
neither Greater p turned up down = absurd (up refl)

up_to-both : (v : List ℕ) (priority : ℤ) (w : List ℕ) (other_priority : ℤ) → IsUpTo v priority w other_priority
    → IsUpTo w other_priority v priority → SameVersion v w
unfolding IsUpTo
up_to-both v priority w other_priority (inl below) (inl above) = absurd (omega (arith, ints))
up_to-both v priority w other_priority (inl below) (inr alike) =
    absurd (let e : other_priority ≡ priority = alike.0 in omega (arith, ints))
up_to-both v priority w other_priority (inr alike) (inl above) =
    absurd (let e : priority ≡ other_priority = alike.0 in omega (arith, ints))
up_to-both v priority w other_priority (inr alike) (inr back) =
    neither (version_cmp v w) (version_cmp w v) (version_cmp-antisymm v w) alike.1 back.1

-- the candidates of a name are of one version
pub one_candidate : (inputs : Inputs) (name version other : List ℕ) (priority other_priority : ℤ)
    → IsCandidate inputs name version priority → IsCandidate inputs name other other_priority → SameVersion version other
one_candidate inputs name version other priority other_priority candidate candidate' =
    up_to-both version priority other other_priority
    (candidate'.greatest version priority candidate.eligible)
    (candidate.greatest other other_priority candidate'.eligible)
