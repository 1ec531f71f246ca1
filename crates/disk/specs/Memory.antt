-- What a read gives of a file in memory, and what a crash may leave, from the calls that it keeps.
use Rattle.std.specs.Prelude.{◌≡◌, ◌⊎◌, ℕ, ◌≤◌, Bool, IsTrue, List, [], ◌∷◌, ◌++◌, length, take, reverse}
use Rattle.std.proofs.Common.{inl, inr, refl, arith}
use Rattle.disk.specs.declared.changes.DiskCall.{DiskCall}
use Rattle.disk.specs.declared.changes.DiskCall.TheVariants.{Length, Reading, Writing, Cutting, Syncing}
use Rattle.disk.specs.declared.changes.Made.{Made}
use Rattle.disk.specs.declared.memory.MemoryDisk.{MemoryDisk}
use Rattle.disk.specs.Calls.{Shortened, Torn}
use Rattle.disk.specs.Facts.{DiskFacts}

-- the bytes before a call, from those after it and those that stood from its offset on
abbrev pub bytes_before : DiskCall → List ℕ → List ℕ → List ℕ
bytes_before (Writing at bytes) tail after = take at after ++ tail
bytes_before (Cutting n) tail after = take n after ++ tail
bytes_before Length tail after = after
bytes_before (Reading at n) tail after = after
bytes_before Syncing tail after = after

-- the bytes before a call that was made
abbrev pub before : Made → List ℕ → List ℕ
before made after = bytes_before made.call made.tail.items after

-- what a crash may make of a call: of a write its range holds any bytes, a cut happened in part, and behind a sync that
-- succeeded nothing is left of what was before
abbrev pub Takes : DiskCall → Bool → List ℕ → List ℕ → Type 0
Takes (Writing at bytes) failed old new = Torn at (length bytes.items) old new
Takes (Cutting n) failed old new = Shortened n old new
Takes Length failed old new = new ≡ old
Takes (Reading at n) failed old new = new ≡ old
Takes Syncing failed old new = IsTrue failed × (new ≡ old)

-- what a crash now may leave, by the calls so far, of which the newest comes first
abbrev pub Leaves : List ℕ → List Made → List ℕ → Type 0
Leaves seen [] c = c ≡ seen
Leaves seen (made ∷ earlier) c = (c ≡ seen) ⊎ ((d : List ℕ) × Leaves (before made seen) earlier d × Takes made.call made.failed d c)

-- what a crash at one of the moments from t on may have left
abbrev pub Since : ℕ → List ℕ → List Made → List ℕ → Type 0
Since t seen [] c = Leaves seen [] c
Since t seen (made ∷ earlier) c = Leaves seen (made ∷ earlier) c ⊎ ((t ≤ length earlier) × Since t (before made seen) earlier c)

pub among : (seen : List ℕ) (calls : List Made) → Leaves seen calls seen
among seen [] = refl
among seen (made ∷ earlier) = inl refl

pub counts : (seen : List ℕ) (calls : List Made) (t : ℕ) (c : List ℕ) → Leaves seen calls c → Since t seen calls c
counts seen [] t c left = left
counts seen (made ∷ earlier) t c left = inl left

pub only : (seen : List ℕ) (calls : List Made) (c : List ℕ) → Since (length calls) seen calls c → Leaves seen calls c
only seen [] c left = left
only seen (made ∷ earlier) c (inl left) = left
only seen (made ∷ earlier) c (inr past) = absurd (omega (arith, past.0))

-- the facts of a file in memory with these bytes, by the calls so far, of which the newest comes first
abbrev pub facts_of : List ℕ → List Made → DiskFacts
facts_of seen calls = record {
  seen = seen;
  leaves = Leaves seen calls;
  moment = length calls;
  since = λ t. Since t seen calls;
  among = among seen calls;
  counts_now = λ t c le left. counts seen calls t c left;
  only_now = λ c left. only seen calls c left;
}

-- the facts of a disk in memory
abbrev pub memory_facts : MemoryDisk → DiskFacts
memory_facts m = facts_of m.bytes.items (reverse m.calls.items)

-- a call that changes nothing: the length, a read, a sync that fails
abbrev pub IsQuiet : DiskCall → Bool → Type 0
IsQuiet Length failed = record {}
IsQuiet (Reading at n) failed = record {}
IsQuiet (Writing at bytes) failed = ⊥
IsQuiet (Cutting n) failed = ⊥
IsQuiet Syncing failed = IsTrue failed

-- the call is a write of these bytes at this offset
abbrev pub IsWriteOf : ℕ → List ℕ → DiskCall → Type 0
IsWriteOf at bytes (Writing offset kept) = (offset ≡ at) × (kept.items ≡ bytes)
IsWriteOf at bytes Length = ⊥
IsWriteOf at bytes (Reading offset n) = ⊥
IsWriteOf at bytes (Cutting n) = ⊥
IsWriteOf at bytes Syncing = ⊥
