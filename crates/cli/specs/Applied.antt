-- What is printed of a plan that is to be carried out, and what is made of the file of its journal.
use Rattle.std.specs.Prelude.{◌≡◌, ◌≢◌, ◌⊎◌, List, ℕ, IfOk, Result, Ok, Err}
use Rattle.apply.specs.Begun.{IsBegunOn, IsNotBegunOn}
use Rattle.apply.specs.Run.{IsRunOn}
use Rattle.apply_engine.specs.GoodPlan.{IsCarriedOut, ReadyPlan}
use Rattle.apply_engine.specs.Prepared.{IsSaidOfPrepared}
use Rattle.apply_engine.specs.declared.good_plan.CarriedOut.{CarriedOut}
use Rattle.apply_engine.specs.declared.question.Prepared.{Prepared}
use Rattle.apply_engine.specs.declared.question.Prepared.TheVariants.{Judged, Ready}
use Rattle.cli.specs.Places.{AreOthers}
use Rattle.cli.specs.declared.applied.Stop.{Stop}
use Rattle.cli.specs.declared.applied.Stop.TheVariants.{NotBegun, Stopped}
use Rattle.disk.specs.Facts.{DiskFacts}
use Rattle.inputs.specs.Texts.{Found, Texts}
use Rattle.inputs.specs.declared.refusal.Refusal.{Refusal}
use Rattle.outcomes.specs.Answer.{applied_line, verdict_line}
use Rattle.outcomes.specs.Exit.{exit_of_verdict}
use Rattle.outcomes.specs.Outcome.{IsOutcomeOfOneFile, IsOutcomeOfRefusal, IsOutcomeOfStopped, IsOutcomeOfUnbegun, IsUnwritten}
use Rattle.outcomes.specs.declared.exit.Exit.TheVariants as exit
use Rattle.outcomes.specs.declared.outcome.Outcome.{Outcome}
use Rattle.outcomes.specs.declared.outcome.Outcome.TheVariants as outcome

-- the journal, the output and these files are different ones, but that these may be the same among themselves
pub record AreApart (journal output : List ℕ) (others : List (List ℕ)) : Type 0 where
  pub written : journal ≢ output
  pub journal_not_read : AreOthers journal others
  pub output_not_read : AreOthers output others

-- The run on a journal

-- a good plan was begun on the file of a journal and gone on with: with this answer, or until this stood against it
abbrev pub IsRunThrough : {J : Type 0} → (J → Type 0) → (J → DiskFacts) → ReadyPlan → J → Result CarriedOut Stop → J → Type 0
IsRunThrough honest facts plan old (Err (NotBegun e)) new = honest old → honest new × IsNotBegunOn plan.arch plan.start (facts old) e (facts new)
IsRunThrough {J} honest facts plan old (Err (Stopped e)) new = (begun : J) × (honest old → honest new
    × IsBegunOn plan.arch plan.start (facts old) (facts begun)
    × IsRunOn {T = CarriedOut} plan.arch plan.start plan.records (facts begun) (Err e) (facts new))
IsRunThrough {J} honest facts plan old (Ok done) new = IsCarriedOut plan done × ((begun : J) × (honest old → honest new
    × IsBegunOn plan.arch plan.start (facts old) (facts begun)
    × IsRunOn plan.arch plan.start plan.records (facts begun) (Ok done) (facts new)))

-- the outcome is that of a plan against which this stood
abbrev pub IsOutcomeOfStop : Stop → Outcome → Type 0
IsOutcomeOfStop (NotBegun e) outcome = IsOutcomeOfUnbegun e outcome
IsOutcomeOfStop (Stopped e) outcome = IsOutcomeOfStopped e outcome

-- What is printed

-- the outcome is that of a plan of so many steps that was carried out: their number where its status text was put, or that it couldn't
-- be written
abbrev pub IsOutcomeOfPut : {A E : Type 0} → ℕ → Result A E → Outcome → Type 0
IsOutcomeOfPut steps (Ok done) printed = printed ≡ outcome.Answer (applied_line steps) exit.Success
IsOutcomeOfPut steps (Err e) printed = IsUnwritten printed

-- the outcome is that of the run: the number of the steps of a plan that was carried out, or that the output couldn't be written; or
-- what stood against it
abbrev pub IsOutcomeOfRun : Result CarriedOut Stop → Outcome → Type 0
IsOutcomeOfRun (Ok done) printed = (printed ≡ outcome.Answer (applied_line done.steps) exit.Success) ⊎ IsUnwritten printed
IsOutcomeOfRun (Err stop) printed = IsOutcomeOfStop stop printed

-- the outcome is that of a good plan that is run
abbrev pub IsOutcomeOfReady : ReadyPlan → Outcome → Type 0
IsOutcomeOfReady plan outcome = (run : Result CarriedOut Stop) × IfOk run (IsCarriedOut plan) × IsOutcomeOfRun run outcome

-- the outcome is that of a good plan: of its run, or of words that name an index as another file too
abbrev pub IsOutcomeOfGood : ReadyPlan → Outcome → Type 0
IsOutcomeOfGood plan outcome = IsOutcomeOfOneFile outcome ⊎ IsOutcomeOfReady plan outcome

-- the outcome is that of what is said of the plan
abbrev pub IsOutcomeOfPrepared : Result Prepared Refusal → Outcome → Type 0
IsOutcomeOfPrepared (Ok (Judged verdict)) printed = printed ≡ outcome.Answer (verdict_line verdict) (exit_of_verdict verdict)
IsOutcomeOfPrepared (Ok (Ready plan)) printed = IsOutcomeOfGood plan printed
IsOutcomeOfPrepared (Err refused) printed = IsOutcomeOfRefusal refused printed

-- the outcome is that of what is said of the plan by the texts, or of words that name one file in two places
abbrev pub IsOutcomeOfPlanTaken : Texts → Found → Outcome → Type 0
IsOutcomeOfPlanTaken texts plan outcome = IsOutcomeOfOneFile outcome
    ⊎ ((said : Result Prepared Refusal) × IsSaidOfPrepared texts plan said × IsOutcomeOfPrepared said outcome)
