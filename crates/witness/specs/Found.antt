-- The witness of the step at which a plan stops.
use Rattle.std.specs.Prelude.{◌≡◌, ℕ, ◌+◌, List, ◌∷◌, ◌++◌, false, length, Option, MatchOption}
use Rattle.rules.specs.Database.{Record}
use Rattle.rules.specs.Run.{Run}
use Rattle.rules.specs.Universe.{Universe, listed_for}
use Rattle.rules.specs.declared.step.Rule.{Rule}
use Rattle.rules.specs.declared.step.Step.{Step}
use Rattle.witness.specs.Witness.{IsWitness, has_witness}
use Rattle.witness.specs.declared.witness.Witness.{Witness}

-- the steps before the one of this number, counted from 1, are a run, and in the database that they leave the witness stands against it, by the rule; there is none only where the rule has none
pub record IsFoundAt (u : Universe) (start : List Record) (steps : List Step) (number : ℕ) (failed : Rule)
    (witness : Option Witness) : Type 0 where
  pub before : List Step
  pub step : Step
  pub rest : List Step
  pub reached : List Record
  pub place : steps ≡ before ++ step ∷ rest
  pub number_is : number ≡ length before + 1
  pub run : Run u start before reached
  pub shown : MatchOption witness (has_witness step failed ≡ false) (IsWitness (listed_for u step) reached step failed)
