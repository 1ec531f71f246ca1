-- What follows from what the texts denote: a plan has one answer, and what the answer yes promises.
use Rattle.std.specs.Prelude.{◌≡◌, ◌⊎◌, Bool, List, Result, Ok, Err}
use Rattle.inputs.specs.Meaning.{Denotes}
use Rattle.inputs.specs.Reading.{out_of_memory}
use Rattle.inputs.specs.Texts.{Found, Texts}
use Rattle.inputs.specs.declared.refusal.Refusal.{Refusal}
use Rattle.plan_sentences.specs.No.{TellsVerdict}
use Rattle.rules.specs.Database.{Record}
use Rattle.rules.specs.PlanLaws.{KeepsPromise}
use Rattle.rules.specs.Run.{IsGoodPlan}
use Rattle.rules.specs.Universe.{Universe}
use Rattle.rules.specs.declared.step.Step.{Step}
use Rattle.rules.specs.declared.step.Verdict.{Verdict}
use Rattle.rules.specs.declared.step.Verdict.TheVariants as verdict
use Rattle.cli_engine.specs.Answer.{IsAnswer, IsFirstRefusal, plan_of}
use Rattle.cli_engine.specs.Reasons.{IsToldWhere}
use Rattle.cli_engine.specs.declared.check.JudgedPlan.{JudgedPlan}

-- a plan has one answer
abbrev pub HasOneAnswer : Type 0
HasOneAnswer = (texts : Texts) (plan : Found) (first second : Verdict) → IsAnswer texts plan first → IsAnswer texts plan second
    → first ≡ second

-- the texts are read as this universe and this start, and the plan as these steps
pub record IsReadAs (texts : Texts) (plan : Found) (u : Universe) (start : List Record) (steps : List Step) : Type 0 where
  pub denoted : Denotes texts u start
  pub read : plan_of plan ≡ Ok steps

-- the texts and the plan are read, and the plan keeps its promise: each step is allowed when its turn comes, no two
-- packages that conflict are unpacked together after any beginning, and the end is as asked
pub record IsPromised (texts : Texts) (plan : Found) : Type 0 where
  pub universe : Universe
  pub start : List Record
  pub steps : List Step
  pub read_as : IsReadAs texts plan universe start steps
  pub kept : KeepsPromise universe start steps

-- a plan that is answered with yes keeps its promise
abbrev pub YesKeepsPromise : Type 0
YesKeepsPromise = (texts : Texts) (plan : Found) → IsAnswer texts plan verdict.Yes → IsPromised texts plan

-- the verdict is true of the plan, the steps are those that it is read as, and the reasons that are told, if they are wanted, tell the verdict
pub record IsJudged (texts : Texts) (plan : Found) (tells_reasons : Bool) (judged : JudgedPlan) : Type 0 where
  pub answer : IsAnswer texts plan judged.verdict
  pub read : plan_of plan ≡ Ok judged.steps.items
  pub reasons : IsToldWhere tells_reasons (TellsVerdict answer.universe answer.start answer.steps judged.verdict) judged.reasons

-- what is said of a plan: its answer, with the reasons that are told, or the first refusal
abbrev pub IsSaid : Texts → Found → Bool → Result JudgedPlan Refusal → Type 0
IsSaid texts plan tells_reasons (Ok judged) = IsJudged texts plan tells_reasons judged
IsSaid texts plan tells_reasons (Err refused) = IsFirstRefusal texts plan refused

-- yes is said of a plan
abbrev pub IsYes : Result JudgedPlan Refusal → Type 0
IsYes said = (judged : JudgedPlan) × (said ≡ Ok judged) × (judged.verdict ≡ verdict.Yes)

-- of a plan that is read and good, over what the texts denote, yes is said, or that memory was wanting
abbrev pub GoodPlanIsAnswered : Type 0
GoodPlanIsAnswered = (texts : Texts) (plan : Found) (u : Universe) (start : List Record) (steps : List Step) (tells_reasons : Bool)
    (said : Result JudgedPlan Refusal) → IsReadAs texts plan u start steps → IsGoodPlan u start steps
    → IsSaid texts plan tells_reasons said → IsYes said ⊎ (said ≡ Err out_of_memory)
