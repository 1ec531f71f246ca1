-- The candidate of a name, and the priority of a version (apt_preferences(5)).
use Rattle.std.specs.Prelude.{◌≡◌, ℕ, ℤ, List, Option, Some, None}
use Rattle.rules.specs.Available.{Inputs, IsAvailable}
use Rattle.rules.specs.Priority.{HasPriority, IsCandidate}
use Rattle.rules.specs.Universe.{IsKeptText}
use Rattle.candidates.specs.Offer.{Offer}

-- it is the candidate of the name in the text that is kept, if the name has one
abbrev pub IsCandidateOf : Inputs → List ℕ → Option Offer → Type 0
IsCandidateOf inputs name None = (version : List ℕ) (priority : ℤ) → ¬ IsCandidate inputs name version priority
IsCandidateOf inputs name (Some offer) =
    (offer.name ≡ name) × IsCandidate inputs name offer.version offer.priority × IsKeptText inputs name offer.version

-- it is the priority of the version of the name, or there is none, since the version isn't available
abbrev pub IsPriorityOf : Inputs → List ℕ → List ℕ → Option ℤ → Type 0
IsPriorityOf inputs name version None = ¬ IsAvailable inputs name version
IsPriorityOf inputs name version (Some priority) = HasPriority inputs name version priority
