-- What a crash of a file in memory leaves of the calls since the last sync.
use Rattle.std.specs.Prelude.{◌≡◌, ℕ, ◌≤◌, ◌<◌, Bool, IsFalse, List, [], ◌∷◌, slice_index_or}
use Rattle.disk.specs.declared.changes.DiskCall.{DiskCall}
use Rattle.disk.specs.declared.changes.DiskCall.TheVariants.{Length, Reading, Writing, Cutting, Syncing}
use Rattle.disk.specs.declared.changes.Made.{Made}
use Rattle.disk.specs.Memory.{before}

-- the bytes before some calls, of which the oldest comes first
abbrev pub undone : List Made → List ℕ → List ℕ
undone [] seen = seen
undone (made ∷ later) seen = before made (undone later seen)

-- a sync that succeeded
abbrev pub IsSyncDone : DiskCall → Bool → Type 0
IsSyncDone Syncing failed = IsFalse failed
IsSyncDone Length failed = ⊥
IsSyncDone (Reading at n) failed = ⊥
IsSyncDone (Writing at bytes) failed = ⊥
IsSyncDone (Cutting n) failed = ⊥

-- no call from one place up to another is a sync that succeeded
abbrev pub NoSyncDone : List Made → ℕ → ℕ → Type 0
NoSyncDone calls from to = (i : ℕ) (made : Made) → from ≤ i → i < to → made ≡ slice_index_or calls i made → ¬ IsSyncDone made.call made.failed
