-- Why a journal isn't brought to the end of a plan.
use Rattle.std.proofs.Common.{◌≡◌, ◌≢◌, ◌⊎◌, inl, inr, ℕ, List, false, refl}
use Rattle.disk.specs.Facts.{DiskFacts}
use Rattle.journal.specs.Ledger.{history_of, IsSettled}
use Rattle.journal.specs.Payload.{RecordedStep}
use Rattle.journal.specs.declared.ledger.Ledger.{Ledger}
use Rattle.apply.specs.Fault.{IsCatchUpFault}
use Rattle.apply.specs.Progress.{IsUpTo}
use Rattle.apply.specs.declared.error.CatchUpError.{CatchUpError}
use Rattle.apply.specs.declared.error.CatchUpError.TheVariants as error
use Rattle.apply.specs.RunFault.{IsFinishFault}

-- of a journal that was settled no error says that it is to be opened again
pub finish_fault : (start : List ℕ) (plan : List RecordedStep) (old new : Ledger) (d : DiskFacts) (e : CatchUpError) → IsCatchUpFault start plan old new e
    → IsUpTo plan (history_of old) (history_of new) → (e ≢ error.Disk → IsSettled new d) → IsFinishFault start plan (history_of old) e
finish_fault start plan old new d error.OutOfMemory fault progress settled = tt
finish_fault start plan old new d error.TooLarge fault progress settled = record { ledger = new; reached = progress; against = fault }
finish_fault start plan old new d (error.NotApplicable name) fault progress settled = record { ledger = new; reached = progress; against = fault }
finish_fault start plan old new d error.Disk fault progress settled = tt
finish_fault start plan old new d error.Reopen fault progress settled =
    let whole : new.broken ≡ false = (settled (λ e. cc)).whole in cc
finish_fault start plan old new d error.Mismatch fault progress settled = fault

-- an error is that of another plan, or isn't
pub is_mismatch : (e : CatchUpError) → (e ≡ error.Mismatch) ⊎ (e ≢ error.Mismatch)
is_mismatch error.OutOfMemory = inr (λ e. cc)
is_mismatch error.TooLarge = inr (λ e. cc)
is_mismatch (error.NotApplicable name) = inr (λ e. cc)
is_mismatch error.Disk = inr (λ e. cc)
is_mismatch error.Reopen = inr (λ e. cc)
is_mismatch error.Mismatch = inl refl
