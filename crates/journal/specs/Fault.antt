-- Why a file isn't opened as a journal (this project's own).
use Rattle.std.specs.Prelude.{◌≡◌, ◌⊎◌, ℕ, ◌<◌, ◌≤◌, List, ◌∷◌, ◌++◌, length, Option, Some, Ok, ⊤}
use Rattle.rules.specs.declared.limits.TheConstants.{TEXT_BYTES}
use Rattle.status_text.specs.Slot.{FileSlot}
use Rattle.status.specs.Stored.{read_stored}
use Rattle.journal.specs.File.{HeaderFits, framed, header, magic_of}
use Rattle.journal.specs.declared.header.FormatVersion.{FormatVersion}
use Rattle.journal.specs.History.{History, IsApplicable, IsFor, Reaches}
use Rattle.journal.specs.Payload.{RecordedStep, Says}
use Rattle.journal.specs.declared.error.OpenError.{OpenError}
use Rattle.journal.specs.declared.error.OpenError.TheVariants as error

-- the bytes begin as a journal, and at least eight bytes follow
pub record IsMarked (file : List ℕ) : Type 0 where
  pub version : FormatVersion
  pub rest : List ℕ
  pub enough : 8 ≤ length rest
  pub is : file ≡ magic_of version ++ rest

-- the file begins with this header
abbrev pub HasHeader : List ℕ → Option (List ℕ) → List ℕ → List ℕ → Type 0
HasHeader file named start rest = HeaderFits named start × (file ≡ header named start ++ rest)

-- the header names another architecture
pub record IsOfAnother (arch file : List ℕ) : Type 0 where
  pub other : List ℕ
  pub start : List ℕ
  pub rest : List ℕ
  pub has : HasHeader file (Some other) start rest
  pub differs : ¬ (other ≡ arch)

-- the file has no header for the architecture whose start is a status text, nor one of another architecture
abbrev pub IsWithoutStart : List ℕ → List ℕ → Type 0
IsWithoutStart arch file = (named : Option (List ℕ)) (start rest : List ℕ) → HasHeader file named start rest
    → IsFor arch named × ((slots : List FileSlot) → ¬ (read_stored arch start ≡ Ok slots))

-- at a gate there is nothing that can be read: it isn't closed, and no record stands behind it whose step can be taken
pub record IsStuck (arch : List ℕ) (slots : List FileSlot) (rest : List ℕ) : Type 0 where
  pub not_closed : (tail : List ℕ) → ¬ (rest ≡ 0 ∷ tail)
  pub no_step : (gate : ℕ) (payload tail : List ℕ) (recorded : RecordedStep) → length payload ≤ TEXT_BYTES
      → rest ≡ gate ∷ framed payload ++ tail → Says payload recorded → ¬ IsApplicable arch recorded slots

-- behind what stands for some history, at this offset, there is a gate at which nothing can be read
pub record IsStuckAt (arch file : List ℕ) (at : ℕ) : Type 0 where
  pub before : History
  pub rest : List ℕ
  pub reaches : Reaches file before at rest
  pub for_it : before.arch ≡ arch
  pub stuck : IsStuck arch before.slots rest

-- the file begins as a journal and can't be read at this offset, which is 16 for what stands before the first gate
pub record IsDamaged (arch file : List ℕ) (at : ℕ) : Type 0 where
  pub marked : IsMarked file
  pub there : ((at ≡ 16) × IsWithoutStart arch file) ⊎ IsStuckAt arch file at

-- the error is why the file isn't opened, or a call of the disk failed, or memory was refused
abbrev pub IsOpenFault : List ℕ → List ℕ → OpenError → Type 0
IsOpenFault arch file error.OutOfMemory = ⊤
IsOpenFault arch file error.Disk = ⊤
IsOpenFault arch file error.NotAJournal = ¬ IsMarked file
IsOpenFault arch file (error.Damaged at) = IsDamaged arch file at
IsOpenFault arch file error.OtherArchitecture = IsMarked file × IsOfAnother arch file

-- the same, of an error for which the disk is no cause
abbrev pub IsReadFault : List ℕ → List ℕ → OpenError → Type 0
IsReadFault arch file error.OutOfMemory = ⊤
IsReadFault arch file error.Disk = ⊥
IsReadFault arch file error.NotAJournal = ¬ IsMarked file
IsReadFault arch file (error.Damaged at) = IsDamaged arch file at
IsReadFault arch file error.OtherArchitecture = IsMarked file × IsOfAnother arch file
