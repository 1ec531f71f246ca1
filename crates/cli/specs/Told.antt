-- What is told of words: an outcome that is to be printed, or the exit status where all was printed as it came.
use Rattle.std.specs.Prelude.{◌≡◌, ◌⊎◌, ℕ, Option, None, Some, Result, Ok, Err, ⊤}
use Rattle.cli.specs.Calls.{IsOutcomeOfAsked}
use Rattle.cli.specs.Files.{Files}
use Rattle.cli.specs.Kept.{Kept}
use Rattle.cli.specs.Leaving.{IsLeftOrUntold, IsLeftUntold, Leaving}
use Rattle.cli.specs.declared.program.Told.{Told}
use Rattle.cli.specs.declared.program.Told.TheVariants as told
use Rattle.command_line.specs.Asked as ask
use Rattle.command_line.specs.Asked.{Asked, Given}
use Rattle.outcomes.specs.Outcome.{IsOutcomeOfMemory, IsWritten, Streams}
use Rattle.outcomes.specs.declared.outcome.Outcome.{Outcome}

-- it isn't asked for many questions to be answered
abbrev pub IsSingle : Asked → Type 0
IsSingle (ask.batch given limit) = ⊥
IsSingle asked = ⊤

-- by these options and with this limit questions are to be answered, or that isn't asked for
abbrev pub IsBatchIn : Asked → Option (Given × ℕ) → Type 0
IsBatchIn asked None = IsSingle asked
IsBatchIn asked (Some batch) = asked ≡ ask.batch batch.0 batch.1

-- the outcome is that of what is asked for, by the files, where they are known
abbrev pub IsOutcomeOfCall : Option Files → Asked → Outcome → Type 0
IsOutcomeOfCall files asked outcome = (at : Files) → files ≡ Some at → IsOutcomeOfAsked at asked outcome

-- an outcome that is to be printed
abbrev pub printed_later : {E : Type 0} → Result Outcome E → Result Told E
printed_later (Ok outcome) = Ok (told.Outcome outcome)
printed_later (Err e) = Err e

-- an outcome that is to be printed is this one, and nothing is written; and else one that is this, or that memory was wanting, is written
abbrev pub IsToldBy : (Outcome → Type 0) → Streams → Streams → Told → Type 0
IsToldBy Says old new (told.Outcome outcome) = Says outcome × (new ≡ old)
IsToldBy Says old new (told.Status status) = (outcome : Outcome) × (Says outcome ⊎ IsOutcomeOfMemory outcome) × IsWritten outcome old new status

-- this is left by the outcome that is to be printed, or by one that is written; where memory was wanting, nothing is changed or as much is
-- left as behind one
abbrev pub IsLeftTold : {J E : Type 0} → Leaving J → Files → Kept J → Result Told E → Option Files → Option (Kept J)
    → Streams → Streams → Type 0
IsLeftTold Leaves at was (Ok (told.Outcome outcome)) files kept old new = Leaves outcome files kept
IsLeftTold Leaves at was (Ok (told.Status status)) files kept old new =
    (outcome : Outcome) × IsLeftOrUntold Leaves at was outcome files kept × IsWritten outcome old new status
IsLeftTold Leaves at was (Err e) files kept old new = IsLeftUntold Leaves at was files kept
