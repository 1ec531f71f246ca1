-- What holds of a part of a universe holds of the universe.
use Rattle.std.specs.Prelude.{◌≡◌, ◌↔◌, ℕ, ◌==◌, Bool, List, Some}
use Rattle.std.specs.List.{AllZip, list_any}
use Rattle.refutation.specs.Clause.{item_at}
use Rattle.refutation.specs.Laws.{HasAscendingPairs, HasNeededPairs}
use Rattle.refutation.specs.Premise.{IsPremise, IsInPremise}
use Rattle.refutation.specs.declared.line.Premise.{Premise}
use Rattle.refutation.specs.declared.literal.Literal.{Literal}
use Rattle.rules.specs.Minimal.{IsLocallyMinimal}
use Rattle.rules.specs.Sound.{IsAcceptable, selected}
use Rattle.rules.specs.Universe.{Universe}
use Rattle.closed_part.specs.Part.{IsPart, IsClosedPart, StandingWerePresent, IsLifted, lowered}
use Rattle.closed_part.specs.Premises.{premise_in, literal_in, LeavesChoice}

-- a selection of the part's pairs selects the packages that it selects as one of the universe's
abbrev pub PartSelectsTheSame : Type 0
PartSelectsTheSame = (u part : Universe) (numbers : List ℕ) (selection lifted : ℕ → Bool) → IsPart u numbers part
    → IsLifted numbers selection lifted → selected u lifted ≡ selected part selection

-- a selection of the part's pairs is acceptable exactly where it is so as one of the universe's
abbrev pub PartIsAcceptable : Type 0
PartIsAcceptable = (u part : Universe) (numbers : List ℕ) (selection lifted : ℕ → Bool) → IsPart u numbers part
    → IsLifted numbers selection lifted → IsAcceptable part selection ↔ IsAcceptable u lifted

-- over a closed part, where each name that stands was present, a selection that is locally minimal is so as one of the universe's
abbrev pub PartIsMinimal : Type 0
PartIsMinimal = (u part : Universe) (numbers : List ℕ) (selection lifted : ℕ → Bool) → IsPart u numbers part → IsClosedPart u numbers
    → StandingWerePresent u → IsLifted numbers selection lifted → IsLocallyMinimal part selection → IsLocallyMinimal u lifted

-- the pairs of a closed part ascend, and those that must be selected are there, where that is so of the universe and each name that
-- stands was present
abbrev pub PartHasNeededPairs : Type 0
PartHasNeededPairs = (u part : Universe) (numbers : List ℕ) → HasAscendingPairs u → HasNeededPairs u → StandingWerePresent u
    → IsPart u numbers part → IsClosedPart u numbers → HasAscendingPairs part × HasNeededPairs part

-- where a list has the numbers of a selection of the part, the list of the numbers that these pairs have in the universe is that
-- selection as one of the universe's
abbrev pub ListIsLifted : Type 0
ListIsLifted = (numbers chosen lifted : List ℕ) → AllZip (λ place number. item_at numbers place ≡ Some number) chosen lifted
    → IsLifted numbers (λ place. list_any (λ one. one == place) chosen) (λ number. list_any (λ one. one == number) lifted)

-- what an acceptable selection has of a closed part, where each name that stands was present, is acceptable over the part
abbrev pub AcceptablePartIsAcceptable : Type 0
AcceptablePartIsAcceptable = (u part : Universe) (numbers : List ℕ) (selection : ℕ → Bool) → IsPart u numbers part → IsClosedPart u numbers
    → StandingWerePresent u → IsAcceptable u selection → IsAcceptable part (lowered numbers selection)

-- a premise of the part is one of the universe
abbrev pub PremisesOfPart : Type 0
PremisesOfPart = (u part : Universe) (numbers : List ℕ) (premise : Premise) → IsPart u numbers part → IsPremise part premise
    → IsPremise u (premise_in numbers premise)

-- over a closed part, where each name that stands was present, its clause has just the literals of the clause of the part's
abbrev pub ClausesOfPart : Type 0
ClausesOfPart = (u part : Universe) (numbers : List ℕ) (premise : Premise) → IsPart u numbers part → IsClosedPart u numbers
    → StandingWerePresent u → IsPremise part premise → (disjunct : Literal) → IsInPremise u (premise_in numbers premise) disjunct
    ↔ ((literal : Literal) × (disjunct ≡ literal_in numbers literal) × IsInPremise part premise literal)

-- where a clause of the part leaves a choice, one of the universe does so
abbrev pub ChoiceOfPart : Type 0
ChoiceOfPart = (u part : Universe) (numbers : List ℕ) → IsPart u numbers part → LeavesChoice part → LeavesChoice u
