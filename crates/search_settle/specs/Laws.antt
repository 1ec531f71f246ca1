-- What follows for selections that are settled by the clauses of a universe.
use Rattle.std.specs.Prelude.{◌≡◌, ◌↔◌, ℕ, Bool, List}
use Rattle.rules.specs.Available.{Inputs}
use Rattle.rules.specs.Database.{Record}
use Rattle.rules.specs.Minimal.{IsLocallyMinimal}
use Rattle.rules.specs.Sound.{IsAcceptable}
use Rattle.rules.specs.Universe.{IsUniverse, Universe, starts_of}
use Rattle.refutation.specs.Laws.{HasAscendingPairs, HasNeededPairs}
use Rattle.refutation.specs.declared.line.Premise.{Premise}
use Rattle.search_settle.specs.Encoded.{IsGivenBy, IsKnown, StandingArePresent}
use Rattle.search_settle.specs.Given.{Given}
use Rattle.search_settle.specs.Moves.{Known}
use Rattle.search_settle.specs.Reach.{PartsAreTrue}
use Rattle.search_settle.specs.Settled.{IsSettled}
use Rattle.search_settle.specs.Truth.{AreTrue}

-- a selection is acceptable exactly where it makes all clauses of the universe true
abbrev pub AcceptableWhereClausesAreTrue : Type 0
AcceptableWhereClausesAreTrue = (u : Universe) (premises : List Premise) (given : Given) (selection : ℕ → Bool) → HasAscendingPairs u
    → HasNeededPairs u → IsGivenBy u premises given → IsAcceptable u selection ↔ AreTrue selection given.clauses

-- a closed part of a selection that makes all clauses true makes them true
abbrev pub ClosedPartsAreTrue : Type 0
ClosedPartsAreTrue = (u : Universe) (premises : List Premise) (given : Given) (known : Known) → IsGivenBy u premises given → IsKnown u known
    → StandingArePresent u → PartsAreTrue given known

-- a settled selection that makes all clauses true is acceptable and locally minimal
abbrev pub SettledIsMinimal : Type 0
SettledIsMinimal = (u : Universe) (premises : List Premise) (given : Given) (known : Known) (selection : ℕ → Bool) → HasAscendingPairs u
    → HasNeededPairs u → IsGivenBy u premises given → IsKnown u known → AreTrue selection given.clauses → IsSettled given known selection
    → IsAcceptable u selection × IsLocallyMinimal u selection

-- where the facts of the start are those of records, each name that stands was present
abbrev pub StandingRecordsArePresent : Type 0
StandingRecordsArePresent = (start : List Record) (u : Universe) → u.starts ≡ starts_of start → StandingArePresent u

-- in the universe of inputs each name that stands at the start was present
abbrev pub StandingOfInputsArePresent : Type 0
StandingOfInputsArePresent = (inputs : Inputs) (u : Universe) → IsUniverse inputs u → StandingArePresent u
