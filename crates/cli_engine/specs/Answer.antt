-- What is answered of a plan and of a name, and which refusal comes first.
use Rattle.std.specs.Prelude.{◌≡◌, ◌⊎◌, ℕ, List, Option, Result, Ok, Err}
use Rattle.std.specs.List.{AllZip}
use Rattle.candidates.specs.Candidates.{IsCandidateOf}
use Rattle.candidates.specs.Inputs.{inputs_of}
use Rattle.candidates.specs.Offer.{Offer}
use Rattle.inputs.specs.Before.{AreRead, IsRefusalBefore}
use Rattle.inputs.specs.Meaning.{Denotes}
use Rattle.inputs.specs.Reading.{with_fault}
use Rattle.inputs.specs.Refused.{IsRefusal}
use Rattle.inputs.specs.Texts.{Found, Texts, read_found}
use Rattle.inputs.specs.declared.refusal.Fault.{Fault}
use Rattle.inputs.specs.declared.refusal.Fault.TheVariants as fault
use Rattle.inputs.specs.declared.refusal.Input.TheVariants as place
use Rattle.inputs.specs.declared.refusal.Refusal.{Refusal}
use Rattle.pins.specs.Prefs.{Preferences}
use Rattle.plantext.specs.Plan.{read_plan}
use Rattle.rules.specs.Available.{Index, Request}
use Rattle.rules.specs.Database.{Record}
use Rattle.rules.specs.Universe.{Universe}
use Rattle.rules.specs.Verdict.{IsVerdict}
use Rattle.rules.specs.declared.step.Step.{Step}
use Rattle.rules.specs.declared.step.Verdict.{Verdict}

-- what a plan is read as
abbrev pub plan_of : Found → Result (List Step) Fault
plan_of plan = read_found (λ text. with_fault fault.Plan (read_plan text)) plan

-- the texts have a meaning, and the plan is refused so
pub record IsPlanRefusal (texts : Texts) (plan : Found) (refused : Refusal) : Type 0 where
  pub universe : Universe
  pub start : List Record
  pub denoted : Denotes texts universe start
  pub place : refused.place ≡ place.Plan
  pub fault : plan_of plan ≡ Err refused.fault

-- the first refusal of the texts and of the plan, in the order of reading
abbrev pub IsFirstRefusal : Texts → Found → Refusal → Type 0
IsFirstRefusal texts plan refused = IsRefusal texts refused ⊎ IsPlanRefusal texts plan refused

-- the verdict is true of the plan that the text is read as, with what the texts denote
pub record IsAnswer (texts : Texts) (plan : Found) (verdict : Verdict) : Type 0 where
  pub universe : Universe
  pub start : List Record
  pub steps : List Step
  pub denoted : Denotes texts universe start
  pub read : plan_of plan ≡ Ok steps
  pub holds : IsVerdict universe start steps verdict

-- it is the candidate of the name, if the name has one, by what the texts before the request are read as, whatever is asked for
pub record IsCandidateAnswer (texts : Texts) (name : List ℕ) (candidate : Option Offer) : Type 0 where
  pub start : List Record
  pub indices : List Index
  pub prefs : Preferences
  pub read : AreRead texts start indices prefs
  pub holds : (request : Request) → IsCandidateOf (inputs_of start indices prefs request) name candidate

-- they are the candidates of the names, each in the place of its name, whatever is asked for
abbrev pub AreCandidatesOf : List Record → List Index → Preferences → List (List ℕ) → List (Option Offer) → Type 0
AreCandidatesOf start indices prefs names candidates =
    AllZip (λ name candidate. (request : Request) → IsCandidateOf (inputs_of start indices prefs request) name candidate) names candidates

-- they are the candidates of the names, each in the place of its name, by what the texts before the request are read as
abbrev pub AreCandidateAnswers : Texts → List (List ℕ) → List (Option Offer) → Type 0
AreCandidateAnswers texts names candidates = AllZip (IsCandidateAnswer texts) names candidates

-- what is said of the candidates of names: they, or the first refusal of the texts before the request
abbrev pub IsSaidOfNames : Texts → List (List ℕ) → Result (List (Option Offer)) Refusal → Type 0
IsSaidOfNames texts names (Ok candidates) = AreCandidateAnswers texts names candidates
IsSaidOfNames texts names (Err refused) = IsRefusalBefore texts refused
