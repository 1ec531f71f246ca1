-- What is printed of as much of a request as can be.
use Rattle.std.specs.Prelude.{◌≡◌, ◌⊎◌, ℕ, List, Option, None, Some, Result, Ok, Err}
use Rattle.cli.specs.Again.{ArchiveOf, archives_by}
use Rattle.cli.specs.Asking.{IsSaidIn, is_document}
use Rattle.cli.specs.Members.{AreMembersIn, AreOfKept}
use Rattle.cli.specs.Places.{IsFree}
use Rattle.cli.specs.declared.possible.Left.{Left}
use Rattle.command_line.specs.declared.call.Format.{Format}
use Rattle.inputs.specs.Texts.{Texts}
use Rattle.inputs.specs.declared.refusal.Refusal.{Refusal}
use Rattle.keep_back.specs.KeptBack.{IsSaidOfKept}
use Rattle.keep_back.specs.declared.keep_back.KeptBack.{KeptBack}
use Rattle.outcomes.specs.Outcome.{IsOutcomeIn, IsOutcomeOfOneFile, IsOutcomeOfRefusal, IsOutcomeOfSolved, IsRequestUnwritten}
use Rattle.outcomes.specs.declared.outcome.Outcome.{Outcome}
use Rattle.serde_json.specs.Data.{Members}

-- this is printed, or where there is an output, that the request that is left couldn't be written there
abbrev pub IsPrintedWhere : Option (List ℕ) → Outcome → Outcome → Type 0
IsPrintedWhere None printed outcome = outcome ≡ printed
IsPrintedWhere (Some path) printed outcome = (outcome ≡ printed) ⊎ IsRequestUnwritten outcome

-- this is printed where the request that is left was put, and else that it couldn't be written
abbrev pub IsPrintedOfPut : {A E : Type 0} → Result A E → Outcome → Outcome → Type 0
IsPrintedOfPut (Ok done) printed outcome = outcome ≡ printed
IsPrintedOfPut (Err e) printed outcome = IsRequestUnwritten outcome

-- it is printed of the answer to what is left, in this format, and in a document with the members of both, with these archives
abbrev pub IsPrintedOfKept : ArchiveOf → Format → KeptBack → Outcome → Type 0
IsPrintedOfKept archives written kept printed = (plain : Outcome) × (members : Members) × IsOutcomeOfSolved (Ok kept.answered) plain
    × AreMembersIn written (AreOfKept archives kept) members × IsOutcomeIn written members plain printed

-- it is said of as much of the request as can be, for an answer in this format
abbrev pub IsSaidOfKeptIn : Texts → ℕ → Format → Result KeptBack Refusal → Type 0
IsSaidOfKeptIn texts limit written said =
    IsSaidIn written (λ tells_reasons. IsSaidOfKept texts limit tells_reasons (is_document written) said)

-- something is said of as much of the request as can be, and this is what is printed and written of it, or the refusal
abbrev pub IsSaidOfLeft : Texts → ℕ → Format → Result Left Refusal → Type 0
IsSaidOfLeft texts limit written (Ok left) = (kept : KeptBack) × IsSaidOfKeptIn texts limit written (Ok kept)
    × IsPrintedOfKept (archives_by texts) written kept left.printed × (left.request ≡ kept.request)
IsSaidOfLeft texts limit written (Err refused) = IsSaidOfKeptIn texts limit written (Err refused)

-- the outcome is that of what is said
abbrev pub IsOutcomeOfSaid : ArchiveOf → Format → Result KeptBack Refusal → Option (List ℕ) → Outcome → Type 0
IsOutcomeOfSaid archives written (Ok kept) output outcome =
    (printed : Outcome) × IsPrintedOfKept archives written kept printed × IsPrintedWhere output printed outcome
IsOutcomeOfSaid archives written (Err refusal) output outcome = IsOutcomeOfRefusal refusal outcome

-- the outcome is that of what is said of as much of the request as can be, by the texts
abbrev pub IsOutcomeOfFree : Texts → ℕ → Option (List ℕ) → Format → Outcome → Type 0
IsOutcomeOfFree texts limit output written outcome =
    (said : Result KeptBack Refusal) × IsSaidOfKeptIn texts limit written said × IsOutcomeOfSaid (archives_by texts) written said output outcome

-- so it is, or the words name one of these files that are read as the output too
abbrev pub IsOutcomeOfPossible : Texts → List (List ℕ) → ℕ → Option (List ℕ) → Format → Outcome → Type 0
IsOutcomeOfPossible texts read limit output written outcome = ((¬ IsFree output read) × IsOutcomeOfOneFile outcome)
    ⊎ (IsFree output read × IsOutcomeOfFree texts limit output written outcome)
