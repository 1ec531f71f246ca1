-- Refusals of relation fields, and the errors of the calls that take memory.
use Rattle.std.specs.Prelude.{◌≡◌, ℕ, ⊤, List, Result, Err, codes}
use Rattle.relation.specs.declared.error.RelationError.{RelationError}
use Rattle.relation.specs.declared.error.RelationError.TheVariants as error
use Rattle.relation.specs.declared.error.RequiredField.{RequiredField}
use Rattle.relation.specs.declared.error.RequiredField.TheVariants as required
use Rattle.relation_text.specs.declared.error.RelationFault.{RelationFault}

-- the error is the refusal of this reading, or want of memory
abbrev pub IsFault : {A : Type 0} → RelationError → Result A RelationFault → Type 0
IsFault (error.Refused fault) read = read ≡ Err fault
IsFault error.OutOfMemory read = ⊤

-- the name of a field without which there is no package, as it is printed
abbrev pub field_name : RequiredField → List ℕ
field_name required.Package = codes "Package"
field_name required.Version = codes "Version"
