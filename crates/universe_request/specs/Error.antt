-- Refusals of a request, and the errors of the calls that take memory.
use Rattle.std.specs.Prelude.{◌≡◌, ⊤, Result, Err}
use Rattle.universe_request.specs.declared.error.RequestError.{RequestError}
use Rattle.universe_request.specs.declared.error.RequestError.TheVariants as error
use Rattle.universe_request.specs.declared.error.RequestFault.{RequestFault}

-- the error is the refusal of this reading, or want of memory
abbrev pub IsRequestFault : {A : Type 0} → RequestError → Result A RequestFault → Type 0
IsRequestFault (error.Refused fault) read = read ≡ Err fault
IsRequestFault error.OutOfMemory read = ⊤
