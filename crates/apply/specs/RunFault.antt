-- Why a plan wasn't carried out on the file of a journal.
use Rattle.std.specs.Prelude.{◌≡◌, ℕ, List, ⊤}
use Rattle.journal.specs.Fault.{IsOpenFault}
use Rattle.journal.specs.History.{History, Shows}
use Rattle.journal.specs.Ledger.{history_of}
use Rattle.journal.specs.Payload.{RecordedStep}
use Rattle.journal.specs.declared.error.AppendError.{AppendError}
use Rattle.journal.specs.declared.error.AppendError.TheVariants as append_error
use Rattle.journal.specs.declared.error.OpenError.TheVariants as open_error
use Rattle.journal.specs.declared.ledger.Ledger.{Ledger}
use Rattle.apply.specs.Fault.{StandsAgainst}
use Rattle.apply.specs.Planned.{IsOfPlan}
use Rattle.apply.specs.Progress.{IsUpTo}
use Rattle.apply.specs.declared.error.CatchUpError.{CatchUpError}
use Rattle.apply.specs.declared.error.CatchUpError.TheVariants as error
use Rattle.apply.specs.declared.error.RunError.{RunError}
use Rattle.apply.specs.declared.error.RunError.TheVariants.{NotOpened, NotFinished}

-- behind this history, or one that goes on from it to first steps of the plan, this stands against the plan's next step
pub record IsStopped (plan : List RecordedStep) (h : History) (e : AppendError) : Type 0 where
  pub ledger : Ledger
  pub reached : IsUpTo plan h (history_of ledger)
  pub against : StandsAgainst plan ledger e

-- why a journal with this history isn't brought to the plan's end: it isn't one of the plan's, or this stands against a step, or
-- a call of the disk failed, or memory was refused
abbrev pub IsFinishFault : List ℕ → List RecordedStep → History → CatchUpError → Type 0
IsFinishFault start plan h error.OutOfMemory = ⊤
IsFinishFault start plan h error.TooLarge = IsStopped plan h append_error.TooLarge
IsFinishFault start plan h (error.NotApplicable name) = IsStopped plan h (append_error.NotApplicable name)
IsFinishFault start plan h error.Disk = ⊤
IsFinishFault start plan h error.Reopen = ⊥
IsFinishFault start plan h error.Mismatch = ¬ IsOfPlan start plan h

-- why the history that the file shows isn't brought to the plan's end
pub record IsUnfinished (arch start : List ℕ) (plan : List RecordedStep) (file : List ℕ) (e : CatchUpError) : Type 0 where
  pub h : History
  pub for_it : h.arch ≡ arch
  pub shows : Shows file h
  pub fault : IsFinishFault start plan h e

-- why the plan isn't carried out on a file with these bytes: it isn't opened, or its journal isn't brought to the plan's end
abbrev pub IsRunFault : List ℕ → List ℕ → List RecordedStep → List ℕ → RunError → Type 0
IsRunFault arch start plan file (NotOpened e) = IsOpenFault arch file e
IsRunFault arch start plan file (NotFinished taken e) = IsUnfinished arch start plan file e

-- a call of the disk failed
abbrev pub IsDiskFault : RunError → Type 0
IsDiskFault (NotOpened e) = e ≡ open_error.Disk
IsDiskFault (NotFinished taken e) = e ≡ error.Disk
