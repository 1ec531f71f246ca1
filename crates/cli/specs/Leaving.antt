-- What a call leaves of the files and the journals of a host, by what is printed.
use Rattle.std.specs.Prelude.{◌≡◌, ◌⊎◌, ◌∷◌, ◌++◌, [], List, ℕ, false, Option, None, Some, Result, Ok, Err}
use Rattle.apply_engine.specs.GoodPlan.{ReadyPlan}
use Rattle.apply_engine.specs.Prepared.{IsSaidOfPrepared}
use Rattle.apply_engine.specs.declared.good_plan.CarriedOut.{CarriedOut}
use Rattle.apply_engine.specs.declared.question.Prepared.{Prepared}
use Rattle.apply_engine.specs.declared.question.Prepared.TheVariants.{Ready}
use Rattle.cli.specs.Again.{ArchiveOf, archives_by}
use Rattle.cli.specs.Applied.{AreApart, IsOutcomeOfPrepared, IsOutcomeOfStop, IsRunThrough}
use Rattle.cli.specs.Calls.{IsOutcomeOfAsked, IsOutcomeOfRequest}
use Rattle.cli.specs.Files.{Files, HasPut, judged_at}
use Rattle.cli.specs.Kept.{IsNoted, Kept, Put, SameElsewhere, Untouched}
use Rattle.cli.specs.Packages.{IsLeftOfPackages}
use Rattle.cli.specs.Places.{IsFree, paths_for, paths_given, texts_for}
use Rattle.cli.specs.Possible.{IsPrintedOfKept, IsSaidOfKeptIn}
use Rattle.cli.specs.declared.applied.Stop.{Stop}
use Rattle.command_line.specs.Asked as ask
use Rattle.command_line.specs.Asked.{Asked, Extent}
use Rattle.command_line.specs.declared.call.Format.{Format}
use Rattle.disk.specs.Facts.{DiskFacts}
use Rattle.inputs.specs.Texts.{Found, Texts}
use Rattle.inputs.specs.declared.refusal.Refusal.{Refusal}
use Rattle.keep_back.specs.declared.keep_back.KeptBack.{KeptBack}
use Rattle.outcomes.specs.Answer.{applied_line}
use Rattle.outcomes.specs.Outcome.{IsOutcomeOfMemory, IsOutcomeOfOneFile, IsOutcomeOfRefusal, IsRequestUnwritten, IsUnwritten}
use Rattle.outcomes.specs.declared.exit.Exit.TheVariants as exit
use Rattle.outcomes.specs.declared.outcome.Outcome.{Outcome}
use Rattle.outcomes.specs.declared.outcome.Outcome.TheVariants as outcome

-- what is left of the files and the journals, by what is printed
abbrev pub Leaving : Type 0 → Type 1
Leaving J = Outcome → Option Files → Option (Kept J) → Type 0

-- Where memory was wanting

-- nothing is changed; or as much is left as behind an outcome, which isn't printed
abbrev pub IsLeftUntold : {J : Type 0} → Leaving J → Files → Kept J → Option Files → Option (Kept J) → Type 0
IsLeftUntold Leaves at was files kept = Untouched at was files kept ⊎ ((made : Outcome) × Leaves made files kept)

-- this is left by an outcome, and where memory was wanting for one, nothing is changed or as much is left as behind one
abbrev pub IsLeftWith : {J E : Type 0} → Leaving J → Files → Kept J → Result Outcome E → Option Files → Option (Kept J) → Type 0
IsLeftWith Leaves at was (Ok outcome) files kept = Leaves outcome files kept
IsLeftWith Leaves at was (Err e) files kept = IsLeftUntold Leaves at was files kept

-- this is left by the outcome, or the outcome is that memory was wanting, and nothing is changed or as much is left as behind another
abbrev pub IsLeftOrUntold : {J : Type 0} → Leaving J → Files → Kept J → Leaving J
IsLeftOrUntold Leaves at was outcome files kept =
    Leaves outcome files kept ⊎ (IsOutcomeOfMemory outcome × IsLeftUntold Leaves at was files kept)

-- Of a plan that is to be carried out

-- behind the run: the number of steps is printed where the status text was put at the output while the journal was held; and else no
-- text was put
abbrev pub IsLeftOfRun : Result CarriedOut Stop → List ℕ → List ℕ → Files → List Put → Outcome → Option Files → List Put → Type 0
IsLeftOfRun (Err stop) journal output at puts printed files now = IsOutcomeOfStop stop printed × (files ≡ Some at) × (now ≡ puts)
IsLeftOfRun (Ok done) journal output at puts printed files now =
    ((printed ≡ outcome.Answer (applied_line done.steps) exit.Success)
    × ((after : Files) × (files ≡ Some after) × HasPut output done.status.items at after)
    × (now ≡ puts ++ record { path = output; text = done.status.items; held = Some journal; named = false } ∷ []))
    ⊎ (IsUnwritten printed × (files ≡ Some at) × (now ≡ puts))

-- a good plan is run on the journal at its path, and no other is touched
pub record IsLeftOfReady {J : Type 0} (honest : J → Type 0) (facts : J → DiskFacts) (plan : ReadyPlan) (journal output : List ℕ)
    (at : Files) (was : Kept J) (printed : Outcome) (files : Option Files) (kept : Option (Kept J)) : Type 0 where
  pub run : Result CarriedOut Stop
  pub left : Kept J
  pub kept_is : kept ≡ Some left
  pub elsewhere : SameElsewhere journal was left
  pub through : IsRunThrough honest facts plan (was.journals journal) run (left.journals journal)
  pub outcome : IsLeftOfRun run journal output at was.puts printed files left.puts

-- words that name one file in two places are refused, and nothing is changed; and else this is left
abbrev pub WhereApart : {J : Type 0} → List ℕ → List ℕ → List (List ℕ) → Files → Kept J → Leaving J → Leaving J
WhereApart journal output others at was Leaves outcome files kept =
    ((¬ AreApart journal output others) × IsOutcomeOfOneFile outcome × Untouched at was files kept)
    ⊎ (AreApart journal output others × Leaves outcome files kept)

-- a good plan is run, where the journal and the output are none of the indices
abbrev pub IsLeftOfGood : {J : Type 0} → (J → Type 0) → (J → DiskFacts) → ReadyPlan → List ℕ → List ℕ → Files → Kept J → Leaving J
IsLeftOfGood honest facts plan journal output at was =
    WhereApart journal output plan.indices at was (IsLeftOfReady honest facts plan journal output at was)

-- a good plan is run so; and behind a verdict or a refusal nothing is changed
abbrev pub IsLeftOfPrepared : {J : Type 0} → (J → Type 0) → (J → DiskFacts) → Result Prepared Refusal → List ℕ → List ℕ → Files → Kept J → Leaving J
IsLeftOfPrepared honest facts (Ok (Ready plan)) journal output at was outcome files kept =
    IsLeftOfGood honest facts plan journal output at was outcome files kept
IsLeftOfPrepared honest facts said journal output at was outcome files kept = IsOutcomeOfPrepared said outcome × Untouched at was files kept

-- what is left is that of what is said of the plan by the texts, where the journal and the output are none of these files that are read
abbrev pub IsLeftOfPlanTaken : {J : Type 0} → (J → Type 0) → (J → DiskFacts) → Texts → Found → List (List ℕ) → List ℕ → List ℕ
    → Files → Kept J → Leaving J
IsLeftOfPlanTaken honest facts texts plan read journal output at was = WhereApart journal output read at was (λ outcome files kept.
    (said : Result Prepared Refusal) × IsSaidOfPrepared texts plan said × IsLeftOfPrepared honest facts said journal output at was outcome files kept)

-- Of as much of a request as can be

-- the text stands at this path and nothing else is changed: it was put there, and no journal was held for it
abbrev pub IsPut : {J : Type 0} → List ℕ → List ℕ → Files → Kept J → Option Files → Option (Kept J) → Type 0
IsPut {J} path text at was files kept = ((after : Files) × (files ≡ Some after) × HasPut path text at after)
    × ((left : Kept J) × (kept ≡ Some left) × IsNoted false path text was left)

-- the answer to what is left is printed where its request stands at the path of the output; where it couldn't be written there, or
-- where there is no output, nothing is changed
abbrev pub IsLeftOfKept : {J : Type 0} → Option (List ℕ) → List ℕ → Outcome → Files → Kept J → Leaving J
IsLeftOfKept None request printed at was outcome files kept = (outcome ≡ printed) × Untouched at was files kept
IsLeftOfKept (Some path) request printed at was outcome files kept =
    ((outcome ≡ printed) × IsPut path request at was files kept) ⊎ (IsRequestUnwritten outcome × Untouched at was files kept)

-- the answer to what is left is printed and its request put; and behind a refusal nothing is changed
abbrev pub IsLeftOfSaid : {J : Type 0} → ArchiveOf → Format → Result KeptBack Refusal → Option (List ℕ) → Files → Kept J → Leaving J
IsLeftOfSaid archives written (Ok back) output at was outcome files kept =
    (printed : Outcome) × IsPrintedOfKept archives written back printed × IsLeftOfKept output back.request printed at was outcome files kept
IsLeftOfSaid archives written (Err refused) output at was outcome files kept = IsOutcomeOfRefusal refused outcome × Untouched at was files kept

-- what is left is that of what is said of as much of the request as can be, by the texts
abbrev pub IsLeftOfFree : {J : Type 0} → Texts → ℕ → Option (List ℕ) → Format → Files → Kept J → Leaving J
IsLeftOfFree texts limit output written at was outcome files kept =
    (said : Result KeptBack Refusal) × IsSaidOfKeptIn texts limit written said
    × IsLeftOfSaid (archives_by texts) written said output at was outcome files kept

-- so it is; and behind words that name one of these files that are read as the output too, nothing is changed
abbrev pub IsLeftOfPossible : {J : Type 0} → Texts → List (List ℕ) → ℕ → Option (List ℕ) → Format → Files → Kept J → Leaving J
IsLeftOfPossible texts read limit output written at was outcome files kept =
    ((¬ IsFree output read) × IsOutcomeOfOneFile outcome × Untouched at was files kept)
    ⊎ (IsFree output read × IsLeftOfFree texts limit output written at was outcome files kept)

-- Of what is asked for

-- all of the request changes nothing; as much of it as can be leaves its request
abbrev pub IsLeftOfExtent : {J : Type 0} → Texts → List (List ℕ) → ℕ → Extent → Format → Files → Kept J → Leaving J
IsLeftOfExtent texts read limit (ask.whole names_pairs) written at was outcome files kept =
    IsOutcomeOfRequest texts limit names_pairs written outcome × Untouched at was files kept
IsLeftOfExtent texts read limit (ask.possible output) written at was outcome files kept =
    IsLeftOfPossible texts read limit output written at was outcome files kept

-- the outcome is that of what is said in answer to what is asked for: a request leaves what is left of it, a plan that is carried out
-- its journal and its output, packages that are asked about the files of those that are broken, and all else changes nothing
abbrev pub IsLeftOfAsked : {J : Type 0} → (J → Type 0) → (J → DiskFacts) → Asked → Files → Kept J → Leaving J
IsLeftOfAsked honest facts (ask.solve given request limit extent explains written) at was outcome files kept =
    IsLeftOfExtent (texts_for at given request) (paths_given given request) limit extent written at was outcome files kept
IsLeftOfAsked honest facts (ask.apply given request plan journal output) at was outcome files kept =
    IsLeftOfPlanTaken honest facts (texts_for at given request) (judged_at at plan) (paths_for given request plan) journal output at was outcome files kept
IsLeftOfAsked honest facts (ask.installable given survey folder explains written) at was outcome files kept =
    IsLeftOfPackages (texts_for at given (ask.goals [])) (paths_given given (ask.goals [])) survey folder written at was outcome files kept
IsLeftOfAsked honest facts asked at was outcome files kept = IsOutcomeOfAsked at asked outcome × Untouched at was files kept
