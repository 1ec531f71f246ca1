-- What an application of a plan leaves, and the end that the plan was judged by (this project's own).
use Rattle.std.specs.Prelude.{ℕ, List}
use Rattle.apply.specs.Fault.{StandsAgainst}
use Rattle.apply.specs.declared.error.CatchUpError.TheVariants as catch_up_error
use Rattle.cli_engine.specs.Meaning.{IsReadAs}
use Rattle.inputs.specs.Texts.{Found, Texts}
use Rattle.journal.specs.Ledger.{history_of}
use Rattle.journal.specs.Payload.{RecordedStep}
use Rattle.journal.specs.declared.error.AppendError.TheVariants as append_error
use Rattle.journal.specs.declared.ledger.Ledger.{Ledger}
use Rattle.rules.specs.Database.{Record}
use Rattle.rules.specs.Run.{IsGoodEnd, Run}
use Rattle.rules.specs.Universe.{Universe}
use Rattle.rules.specs.declared.step.Step.{Step}
use Rattle.apply.specs.RunFault.{IsUnfinished}
use Rattle.apply.specs.Run.{HasBegun, IsEndText}
use Rattle.apply_engine.specs.GoodPlan.{IsCarriedOut, ReadyPlan}
use Rattle.apply_engine.specs.Planned.{IsPlanned}
use Rattle.apply_engine.specs.Prepared.{IsReady}
use Rattle.apply_engine.specs.declared.good_plan.CarriedOut.{CarriedOut}
use Rattle.applied_end.specs.Run.{HasBegunWith, IsNeverRefused, IsStatusFileOf}

-- by the texts the steps of the plan are a run of the rules from the start to a good end, and this is a status file with the records
-- of that end: its names, versions, states and holds
pub record IsJudgedEnd (texts : Texts) (plan : Found) (text : List ℕ) : Type 0 where
  pub universe : Universe
  pub start : List Record
  pub steps : List Step
  pub read_as : IsReadAs texts plan universe start steps
  pub finish : List Record
  pub run : Run universe start steps finish
  pub good : IsGoodEnd universe finish
  pub file : IsStatusFileOf texts.arch text finish

-- the text that the recorded steps of a good plan lead to is the end that the plan was judged by
abbrev pub OutputIsJudgedEnd : Type 0
OutputIsJudgedEnd = (texts : Texts) (plan : Found) (start : List ℕ) (records : List RecordedStep) (text : List ℕ) → IsPlanned texts plan start records
    → IsEndText texts.arch start records text → IsJudgedEnd texts plan text

-- the status text of a plan that is ready by the texts, and was carried out, is the end that it was judged by
abbrev pub CarriedOutIsJudgedEnd : Type 0
CarriedOutIsJudgedEnd = (texts : Texts) (plan : Found) (ready : ReadyPlan) (done : CarriedOut) → IsReady texts plan ready → IsCarriedOut ready done
    → IsJudgedEnd texts plan done.status.items

-- after each beginning of a good plan its next recorded step can be taken
abbrev pub GoodPlanIsTaken : Type 0
GoodPlanIsTaken = (texts : Texts) (plan : Found) (start : List ℕ) (records : List RecordedStep) → IsPlanned texts plan start records
    → IsNeverRefused texts.arch start records

-- E24 never stands against the next step of a good plan, in a journal that has begun with it
abbrev pub GoodPlanIsNeverRefused : Type 0
GoodPlanIsNeverRefused = (texts : Texts) (plan : Found) (start : List ℕ) (records : List RecordedStep) (ledger : Ledger) (name : List ℕ)
    → IsPlanned texts plan start records → HasBegunWith texts.arch start records (history_of ledger)
    → ¬ StandsAgainst records ledger (append_error.NotApplicable name)

-- a journal that has begun with a good plan isn't left unfinished for E24
abbrev pub GoodPlanIsFinished : Type 0
GoodPlanIsFinished = (texts : Texts) (plan : Found) (start : List ℕ) (records : List RecordedStep) (file name : List ℕ) → IsPlanned texts plan start records
    → HasBegun texts.arch start records file → ¬ IsUnfinished texts.arch start records file (catch_up_error.NotApplicable name)
