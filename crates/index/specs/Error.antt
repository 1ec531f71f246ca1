-- Refusals of sources texts and indices, and the errors of the calls that take memory.
use Rattle.std.specs.Prelude.{◌≡◌, ⊤, Result, Err}
use Rattle.index.specs.declared.error.IndexError.{IndexError}
use Rattle.index.specs.declared.error.IndexError.TheVariants as index
use Rattle.index.specs.declared.error.IndexFault.{IndexFault}
use Rattle.index.specs.declared.error.SourcesError.{SourcesError}
use Rattle.index.specs.declared.error.SourcesError.TheVariants as sources
use Rattle.index.specs.declared.error.SourcesFault.{SourcesFault}

-- the error is the refusal of this reading of a sources text, or want of memory
abbrev pub IsSourcesFault : {A : Type 0} → SourcesError → Result A SourcesFault → Type 0
IsSourcesFault (sources.Refused fault) read = read ≡ Err fault
IsSourcesFault sources.OutOfMemory read = ⊤

-- the error is the refusal of this reading of an index, or want of memory
abbrev pub IsIndexFault : {A : Type 0} → IndexError → Result A IndexFault → Type 0
IsIndexFault (index.Refused fault) read = read ≡ Err fault
IsIndexFault index.OutOfMemory read = ⊤
