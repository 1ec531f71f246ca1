-- What one step of reading a journal makes of what was read so far.
use Rattle.std.specs.Prelude.{◌≡◌, ℕ, ◌+◌, List, ◌∷◌, ◌++◌, length, Option, Some, None, Ok, ⊤}
use Rattle.rules.specs.declared.limits.TheConstants.{TEXT_BYTES}
use Rattle.status_text.specs.Slot.{FileSlot, Store}
use Rattle.status.specs.Stored.{read_stored}
use Rattle.journal.specs.File.{Entry, framed}
use Rattle.journal.specs.Fault.{IsStuck, IsStuckAt}
use Rattle.journal.specs.History.{IsApplicable, IsRecord, followed, slots_left}
use Rattle.journal.specs.Ledger.{history_of}
use Rattle.journal.specs.Payload.{RecordedStep}
use Rattle.journal.specs.declared.error.OpenError.{OpenError}
use Rattle.journal.specs.declared.error.OpenError.TheVariants as error
use Rattle.journal.specs.declared.ledger.Ledger.{Ledger}
use Rattle.journal.specs.declared.reading.Taken.{Taken}

-- a record stood there, and its step was taken
pub record IsTaken (rest : List ℕ) (old new : Store) (taken : Taken) : Type 0 where
  pub payload : List ℕ
  pub record_is : IsRecord (taken.gate, payload) taken.recorded
  pub size : taken.len ≡ length payload
  pub is : rest ≡ taken.gate ∷ framed payload ++ taken.behind.now
  pub applicable : IsApplicable old.arch taken.recorded old.slots
  pub left : new ≡ record old { slots = slots_left old.arch taken.recorded old.slots }

-- a record stood there, and the journal remembers its step
pub record IsPushed (old new : Ledger) (rest behind : List ℕ) : Type 0 where
  pub entry : Entry
  pub recorded : RecordedStep
  pub record_is : IsRecord entry recorded
  pub is : rest ≡ entry.0 ∷ framed entry.1 ++ behind
  pub applicable : IsApplicable old.database.arch recorded old.database.slots
  pub history : history_of new ≡ followed (history_of old) recorded
  pub gate : new.gate ≡ old.gate + (5 + length entry.1)
  pub whole : new.broken ≡ old.broken

-- no record stood there that could be taken, or memory was refused
abbrev pub IsPushFault : Ledger → List ℕ → OpenError → Type 0
IsPushFault old rest error.OutOfMemory = ⊤
IsPushFault old rest (error.Damaged at) = (at ≡ old.gate) × IsStuck old.database.arch old.database.slots rest
IsPushFault old rest error.Disk = ⊥
IsPushFault old rest error.NotAJournal = ⊥
IsPushFault old rest error.OtherArchitecture = ⊥

-- at some gate of the file no record stood that could be taken, or memory was refused
abbrev pub IsPushedFault : List ℕ → List ℕ → OpenError → Type 0
IsPushedFault arch file error.OutOfMemory = ⊤
IsPushedFault arch file (error.Damaged at) = IsStuckAt arch file at
IsPushedFault arch file error.Disk = ⊥
IsPushedFault arch file error.NotAJournal = ⊥
IsPushedFault arch file error.OtherArchitecture = ⊥

-- the start isn't a status text, or memory was refused
abbrev pub IsStartFault : List ℕ → List ℕ → OpenError → Type 0
IsStartFault arch start error.OutOfMemory = ⊤
IsStartFault arch start (error.Damaged at) = (at ≡ 16) × ((slots : List FileSlot) → ¬ (read_stored arch start ≡ Ok slots))
IsStartFault arch start error.Disk = ⊥
IsStartFault arch start error.NotAJournal = ⊥
IsStartFault arch start error.OtherArchitecture = ⊥

-- another architecture is named
abbrev pub IsNamedElse : List ℕ → Option (List ℕ) → Type 0
IsNamedElse arch None = ⊥
IsNamedElse arch (Some name) = ¬ (name ≡ arch)
