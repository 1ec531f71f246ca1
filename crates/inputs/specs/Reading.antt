-- Readings of a text, and where their refusals stand.
use Rattle.std.specs.Prelude.{◌≡◌, ◌≢◌, ◌⊎◌, ℕ, List, None, Some, Option, Result, Ok, Err}
use Rattle.inputs.specs.declared.refusal.Fault.{Fault}
use Rattle.inputs.specs.declared.refusal.Fault.TheVariants as fault
use Rattle.inputs.specs.declared.refusal.Input.{Input}
use Rattle.inputs.specs.declared.refusal.Input.TheVariants as place
use Rattle.inputs.specs.declared.refusal.Refusal.{Refusal}
use Rattle.inputs.specs.declared.shelf.ReadError.{ReadError}
use Rattle.inputs.specs.declared.shelf.ReadError.TheVariants as error

-- a reading whose refusal is one of the faults
abbrev pub with_fault : {A E : Type 0} → (E → Fault) → Result A E → Result A Fault
with_fault as_fault (Ok read) = Ok read
with_fault as_fault (Err refused) = Err (as_fault refused)

-- the fault is one of these, or want of memory
abbrev pub OrMemory : (Fault → Type 0) → Fault → Type 0
OrMemory Is reason = (reason ≡ fault.OutOfMemory) ⊎ Is reason

-- the fault is that of this reading, or want of memory
abbrev pub IsFaultOf : {A : Type 0} → Result A Fault → Fault → Type 0
IsFaultOf read reason = OrMemory (λ refused. read ≡ Err refused) reason

-- the refusal for want of memory
abbrev pub out_of_memory : Refusal
out_of_memory = record { place = place.Memory; fault = fault.OutOfMemory }

-- a fault of the text at this place as a refusal: of no text, where memory was wanting
abbrev pub IsPlaced : Input → Fault → Refusal → Type 0
IsPlaced where_ reason refused = ((reason ≡ fault.OutOfMemory) × (refused ≡ out_of_memory))
    ⊎ ((reason ≢ fault.OutOfMemory) × (refused ≡ record { place = where_; fault = reason }))

-- the text at the place isn't found, and is refused for that; or memory was wanting
abbrev pub IsUnread : Input → Option (List ℕ) → Refusal → Type 0
IsUnread where_ text refused = ((text ≡ None) × (refused ≡ record { place = where_; fault = fault.Read })) ⊎ (refused ≡ out_of_memory)

-- the preferences are asked for and aren't found, and are refused for that; or memory was wanting
abbrev pub AreUnread : Option (Option (List ℕ)) → Refusal → Type 0
AreUnread text refused = ((text ≡ Some None) × (refused ≡ record { place = place.Preferences; fault = fault.Read })) ⊎ (refused ≡ out_of_memory)

-- the refusal of the text at the place that couldn't be read
abbrev pub unread_at : Input → ReadError → Refusal
unread_at where_ error.Unreadable = record { place = where_; fault = fault.Read }
unread_at where_ error.OutOfMemory = out_of_memory
