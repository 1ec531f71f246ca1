-- What a step that is taken leaves, and why one isn't taken.
use Rattle.std.specs.Prelude.{◌≡◌, ⊤, ℕ, List, Option, None, Some, Result, Ok, Err}
use Rattle.rules.specs.FileRecord.{IndexStanza}
use Rattle.rules.specs.declared.step.Step.{Step}
use Rattle.rules.specs.declared.step.Step.TheVariants as step
use Rattle.status_text.specs.Slot.{FileSlot, Store, slot_records}
use Rattle.status.specs.Applicable.{refused_name}
use Rattle.status.specs.Left.{stored_after}
use Rattle.status.specs.declared.error.ApplyError.{ApplyError}
use Rattle.status.specs.declared.error.ApplyError.TheVariants.{NotApplicable, OutOfMemory}

-- the step takes memory: each but a purge writes a stanza anew
abbrev pub TakesMemory : Step → Type 0
TakesMemory (step.Unpack name version) = ⊤
TakesMemory (step.Deconfigure name) = ⊤
TakesMemory (step.Configure names) = ⊤
TakesMemory (step.Remove name) = ⊤
TakesMemory (step.Purge name) = ⊥

-- the error has the first of the names for which an action isn't ready, or is want of memory where there is none
abbrev pub IsTouchFault : ApplyError → Option (List ℕ) → Type 0
IsTouchFault (NotApplicable name) unready = unready ≡ Some name
IsTouchFault OutOfMemory unready = unready ≡ None

-- the error has the name that is refused, or is want of memory of a step that can be taken and takes some
abbrev pub IsApplyFault : ApplyError → Option IndexStanza → Step → List FileSlot → Type 0
IsApplyFault (NotApplicable name) indexed taken slots = refused_name indexed taken (slot_records slots) ≡ Some name
IsApplyFault OutOfMemory indexed taken slots = (refused_name indexed taken (slot_records slots) ≡ None) × TakesMemory taken

-- the step was taken and left what it leaves, or there was a fault and all is as it was
abbrev pub IsTaken : {A : Type 0} → Result A ApplyError → Option IndexStanza → Step → Store → Store → Type 0
IsTaken (Ok done) indexed taken old new =
    (refused_name indexed taken (slot_records old.slots) ≡ None) × (new ≡ record old { slots = stored_after indexed taken old.slots })
IsTaken (Err fault) indexed taken old new = IsApplyFault fault indexed taken old.slots × (new ≡ old)
