-- How far a journal has come with a plan.
use Rattle.std.specs.Prelude.{◌≡◌, ◌⊎◌, ℕ, List, ◌++◌}
use Rattle.journal.specs.History.{History, Leads, Shows, followed}
use Rattle.journal.specs.Payload.{RecordedStep}
use Rattle.apply.specs.Planned.{BeginsWith, HasNext}

-- the new history is the old one with these steps behind it, each of which can be taken in its turn
pub record GoesOn (taken : List RecordedStep) (old new : History) : Type 0 where
  pub arch : new.arch ≡ old.arch
  pub start : new.start ≡ old.start
  pub steps : new.steps ≡ old.steps ++ taken
  pub leads : Leads old.arch old.slots taken new.slots

-- the new history goes on from the old one, and its steps are the first of the plan's
pub record IsPartTaken (plan : List RecordedStep) (old new : History) : Type 0 where
  pub taken : List RecordedStep
  pub goes_on : GoesOn taken old new
  pub within : BeginsWith plan new.steps

-- the new history goes on from the old one, and its steps are the plan's
pub record IsCaughtUp (plan : List RecordedStep) (old new : History) : Type 0 where
  pub taken : List RecordedStep
  pub goes_on : GoesOn taken old new
  pub all : new.steps ≡ plan

-- it is the old history, or one that goes on from it to first steps of the plan
abbrev pub IsUpTo : List RecordedStep → History → History → Type 0
IsUpTo plan old new = (new ≡ old) ⊎ IsPartTaken plan old new

-- the file shows the old history, or one that goes on from it to first steps of the plan
abbrev pub ShowsUpTo : List RecordedStep → History → List ℕ → Type 0
ShowsUpTo plan old file = (new : History) × IsUpTo plan old new × Shows file new

-- the file shows the history, or it with the plan's next step behind it
abbrev pub ShowsOrNext : List RecordedStep → History → List ℕ → Type 0
ShowsOrNext plan h file = Shows file h ⊎ ((next : RecordedStep) × HasNext plan h.steps next × Shows file (followed h next))
