-- Refusals of the text of a plan, and the errors of the calls that take memory.
use Rattle.std.specs.Prelude.{◌≡◌, ⊤, Result, Err}
use Rattle.plantext.specs.declared.error.PlanError.{PlanError}
use Rattle.plantext.specs.declared.error.PlanError.TheVariants as error
use Rattle.plantext.specs.declared.error.PlanFault.{PlanFault}

-- the error is the refusal of this reading, or want of memory
abbrev pub IsPlanFault : {A : Type 0} → PlanError → Result A PlanFault → Type 0
IsPlanFault (error.Refused fault) read = read ≡ Err fault
IsPlanFault error.OutOfMemory read = ⊤
