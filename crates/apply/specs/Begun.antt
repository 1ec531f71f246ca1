-- A journal that is there for a plan.
use Rattle.std.specs.Prelude.{◌≡◌, ◌⊎◌, ℕ, List, [], ◌∷◌, ◌++◌, Some}
use Rattle.disk.specs.Calls.{Stays}
use Rattle.disk.specs.Facts.{DiskFacts, Synced}
use Rattle.journal.specs.Creating.{IsCreateFault, IsUnmade}
use Rattle.journal.specs.File.{header}
use Rattle.journal.specs.declared.error.CreateError.TheVariants as create_error
use Rattle.journal.specs.declared.error.OpenError.TheVariants as open_error
use Rattle.apply.specs.declared.error.BeginError.{BeginError}
use Rattle.apply.specs.declared.error.BeginError.TheVariants.{NotCreated, NotRead}

-- a file of which no journal was made is one now, for the architecture, with this start and no step, all of it on the disk; and any
-- other file is as it was
abbrev pub IsBegunOn : List ℕ → List ℕ → DiskFacts → DiskFacts → Type 0
IsBegunOn arch start old new =
    (IsUnmade old.seen × Synced (header (Some arch) start ++ 0 ∷ []) new) ⊎ ((¬ IsUnmade old.seen) × Stays old new)

-- why a file isn't made a journal: it isn't read, for want of memory or since a call of the disk failed; or no journal was made of it
-- before, and none can be made
abbrev pub IsBeginFault : List ℕ → List ℕ → List ℕ → BeginError → Type 0
IsBeginFault arch start file (NotRead e) = (e ≡ open_error.OutOfMemory) ⊎ (e ≡ open_error.Disk)
IsBeginFault arch start file (NotCreated e) = IsUnmade file × IsCreateFault arch start e

-- a call of the disk failed
abbrev pub IsDiskError : BeginError → Type 0
IsDiskError e = (e ≡ NotCreated create_error.Disk) ⊎ (e ≡ NotRead open_error.Disk)

-- a call of the disk failed while the file was made a journal
abbrev pub IsMakingFailed : BeginError → Type 0
IsMakingFailed e = e ≡ NotCreated create_error.Disk

-- the file isn't made a journal for this cause: it is as it was, unless its making failed, and then no journal was made of it before
pub record IsNotBegunOn (arch start : List ℕ) (old : DiskFacts) (e : BeginError) (new : DiskFacts) : Type 0 where
  pub cause : IsBeginFault arch start old.seen e
  pub refused : (¬ IsMakingFailed e) → Stays old new
  pub kept : (¬ IsUnmade old.seen) → Stays old new
