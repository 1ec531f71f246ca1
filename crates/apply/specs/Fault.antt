-- Why a journal doesn't have all steps of a plan.
use Rattle.std.specs.Prelude.{◌≡◌, ℕ, List, true, ⊤}
use Rattle.journal.specs.Adding.{IsAppendFault}
use Rattle.journal.specs.Ledger.{history_of}
use Rattle.journal.specs.Payload.{RecordedStep}
use Rattle.journal.specs.declared.error.AppendError.{AppendError}
use Rattle.journal.specs.declared.error.AppendError.TheVariants as append_error
use Rattle.journal.specs.declared.ledger.Ledger.{Ledger}
use Rattle.apply.specs.Planned.{HasNext, IsOfPlan}
use Rattle.apply.specs.declared.error.CatchUpError.{CatchUpError}
use Rattle.apply.specs.declared.error.CatchUpError.TheVariants as error

-- this stands against adding the next step of the plan
pub record StandsAgainst (plan : List RecordedStep) (ledger : Ledger) (e : AppendError) : Type 0 where
  pub next : RecordedStep
  pub is_next : HasNext plan (history_of ledger).steps next
  pub fault : IsAppendFault ledger next e

-- the same cause, of a plan that wasn't taken to its end
abbrev pub cause_of : AppendError → CatchUpError
cause_of append_error.OutOfMemory = error.OutOfMemory
cause_of append_error.TooLarge = error.TooLarge
cause_of append_error.Disk = error.Disk
cause_of append_error.Reopen = error.Reopen
cause_of (append_error.NotApplicable name) = error.NotApplicable name

-- why the journal wasn't brought to the end of the plan: it isn't one of the plan's, or this stands against its next step, or a
-- call of the disk failed, now or before, or memory was refused
abbrev pub IsCatchUpFault : List ℕ → List RecordedStep → Ledger → Ledger → CatchUpError → Type 0
IsCatchUpFault start plan old new error.OutOfMemory = ⊤
IsCatchUpFault start plan old new error.TooLarge = StandsAgainst plan new append_error.TooLarge
IsCatchUpFault start plan old new (error.NotApplicable name) = StandsAgainst plan new (append_error.NotApplicable name)
IsCatchUpFault start plan old new error.Disk = ⊤
IsCatchUpFault start plan old new error.Reopen = new.broken ≡ true
IsCatchUpFault start plan old new error.Mismatch = ¬ IsOfPlan start plan (history_of old)
