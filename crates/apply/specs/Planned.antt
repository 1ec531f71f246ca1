-- What a journal records of a plan, and when it has begun with one.
use Rattle.std.specs.Prelude.{◌≡◌, ℕ, List, [], ◌∷◌, ◌++◌, Option}
use Rattle.rules.specs.declared.step.Step.{Step}
use Rattle.journal.specs.Adding.{recorded_of}
use Rattle.journal.specs.History.{History}
use Rattle.journal.specs.Payload.{RecordedStep}

-- what is recorded of the steps of a plan, each with the text that is handed in for it
abbrev pub planned : List Step → List (Option (List ℕ)) → List RecordedStep
planned [] texts = []
planned (step ∷ steps) [] = []
planned (step ∷ steps) (text ∷ texts) = recorded_of step text ∷ planned steps texts

-- the first of the plan's steps are these
abbrev pub BeginsWith : List RecordedStep → List RecordedStep → Type 0
BeginsWith plan steps = (later : List RecordedStep) × (plan ≡ steps ++ later)

-- behind these steps the plan has this one
abbrev pub HasNext : List RecordedStep → List RecordedStep → RecordedStep → Type 0
HasNext plan steps next = (later : List RecordedStep) × (plan ≡ steps ++ next ∷ later)

-- the history has this start, and its steps are the first of the plan's
pub record IsOfPlan (start : List ℕ) (plan : List RecordedStep) (h : History) : Type 0 where
  pub start_is : h.start ≡ start
  pub steps_are : BeginsWith plan h.steps
