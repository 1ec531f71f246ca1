-- Refusals of a status file, and the errors of the call that takes memory.
use Rattle.std.specs.Prelude.{◌≡◌, ℕ, ⊤, List, Result, Err, codes}
use Rattle.status_text.specs.declared.error.StatusError.{StatusError}
use Rattle.status_text.specs.declared.error.StatusError.TheVariants.{Refused, OutOfMemory}
use Rattle.status_text.specs.declared.error.StatusFault.{StatusFault}
use Rattle.status_text.specs.declared.error.StatusField.{StatusField}
use Rattle.status_text.specs.declared.error.StatusField.TheVariants as required

-- the error is the refusal of this reading, or want of memory
abbrev pub IsStatusFault : {A : Type 0} → StatusError → Result A StatusFault → Type 0
IsStatusFault (Refused refused) read = read ≡ Err refused
IsStatusFault OutOfMemory read = ⊤

-- the name of a field without which a stanza says nothing of its package, as it is printed
abbrev pub field_name : StatusField → List ℕ
field_name required.Status = codes "Status"
field_name required.Architecture = codes "Architecture"
