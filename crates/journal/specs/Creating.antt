-- A journal that is created, and why one isn't.
use Rattle.std.specs.Prelude.{◌≡◌, ◌⊎◌, ℕ, ◌<◌, ◌^◌, ◌≤◌, List, [], codes, length, take, Ok, ⊤}
use Rattle.rules.specs.declared.limits.TheConstants.{TEXT_BYTES}
use Rattle.status_text.specs.Slot.{FileSlot}
use Rattle.status.specs.Stored.{read_stored}
use Rattle.journal.specs.Ledger.{history_of}
use Rattle.journal.specs.declared.error.CreateError.{CreateError}
use Rattle.journal.specs.declared.error.CreateError.TheVariants as error
use Rattle.journal.specs.declared.ledger.Ledger.{Ledger}

-- how a file begins that is being made a journal
unfoldable pub unmade : List ℕ
unmade = codes "DPJRNL00"

-- the file begins so, or is a shorter beginning of that: no journal was ever made of it
abbrev pub IsUnmade : List ℕ → Type 0
IsUnmade file = take 8 file ≡ take (length file) unmade

-- it has this start for the architecture, what the start is read as, and no step
pub record IsCreated (arch start : List ℕ) (ledger : Ledger) : Type 0 where
  pub for_it : (history_of ledger).arch ≡ arch
  pub start_is : (history_of ledger).start ≡ start
  pub no_step : (history_of ledger).steps ≡ []
  pub read : read_stored arch start ≡ Ok (history_of ledger).slots

-- the text isn't a status file for the architecture, or memory was refused
abbrev pub IsUnreadStart : List ℕ → List ℕ → CreateError → Type 0
IsUnreadStart arch start error.OutOfMemory = ⊤
IsUnreadStart arch start error.BadStart = (slots : List FileSlot) → ¬ (read_stored arch start ≡ Ok slots)
IsUnreadStart arch start error.TooLarge = ⊥
IsUnreadStart arch start error.Disk = ⊥

-- why no journal is created: that, or a length is above its limit, or a call of the disk failed
abbrev pub IsCreateFault : List ℕ → List ℕ → CreateError → Type 0
IsCreateFault arch start error.OutOfMemory = ⊤
IsCreateFault arch start error.BadStart = (slots : List FileSlot) → ¬ (read_stored arch start ≡ Ok slots)
IsCreateFault arch start error.TooLarge = (TEXT_BYTES < length start) ⊎ (2 ^ 16 ≤ length arch)
IsCreateFault arch start error.Disk = ⊤
