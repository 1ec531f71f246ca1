-- Refusals of a preferences file, and the errors of the calls that take memory.
use Rattle.std.specs.Prelude.{◌≡◌, ℕ, ⊤, List, Result, Err, codes}
use Rattle.pins.specs.declared.error.PrefsError.{PrefsError}
use Rattle.pins.specs.declared.error.PrefsError.TheVariants as error
use Rattle.pins.specs.declared.error.PrefsFault.{PrefsFault}
use Rattle.pins.specs.declared.error.PrefsField.{PrefsField}
use Rattle.pins.specs.declared.error.PrefsField.TheVariants as field

-- the error is the refusal of this reading, or want of memory
abbrev pub IsPrefsFault : {A : Type 0} → PrefsError → Result A PrefsFault → Type 0
IsPrefsFault (error.Refused fault) read = read ≡ Err fault
IsPrefsFault error.OutOfMemory read = ⊤

-- the name of a field without which a record says nothing, as it is printed
abbrev pub field_name : PrefsField → List ℕ
field_name field.Package = codes "Package"
field_name field.Pin = codes "Pin"
field_name field.PinPriority = codes "Pin-Priority"
