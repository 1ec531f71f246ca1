-- Refusals of the text of a refutation, and the errors of the calls that take memory.
use Rattle.std.specs.Prelude.{◌≡◌, ⊤, Result, Err}
use Rattle.refutation_text.specs.declared.error.RefutationError.{RefutationError}
use Rattle.refutation_text.specs.declared.error.RefutationError.TheVariants as error
use Rattle.refutation_text.specs.declared.error.RefutationFault.{RefutationFault}

-- the error is the refusal of this reading, or want of memory
abbrev pub IsRefutationFault : {A : Type 0} → RefutationError → Result A RefutationFault → Type 0
IsRefutationFault (error.Refused fault) read = read ≡ Err fault
IsRefutationFault error.OutOfMemory read = ⊤
