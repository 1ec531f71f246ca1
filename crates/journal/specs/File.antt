-- The bytes of a journal (this project's own; docs/FORMATS.md has them as tables). Numbers are big-endian.
use Rattle.std.specs.Prelude.{◌≡◌, ◌⊎◌, ℕ, ◌^◌, ◌<◌, List, [], ◌∷◌, ◌++◌, length, Option, Some, None, codes, ⊤}
use Rattle.std.specs.Int.{w16, w32, w64, to_be_bytes}
use Rattle.journal.specs.declared.header.FormatVersion.{FormatVersion}
use Rattle.journal.specs.declared.header.FormatVersion.TheVariants.{One, Two}

-- how a file of each version begins
unfoldable pub magic_of : FormatVersion → List ℕ
magic_of One = codes "DPJRNL01"
magic_of Two = codes "DPJRNL02"

-- what stands before the first gate: the start, and in version 2 before it the name of the architecture
unfoldable pub header : Option (List ℕ) → List ℕ → List ℕ
header None start = magic_of One ++ (to_be_bytes w64 (length start) ++ start)
header (Some arch) start = magic_of Two ++ (to_be_bytes w64 (length start) ++ (to_be_bytes w16 (length arch) ++ (arch ++ start)))

-- the length of the name fits its two bytes
abbrev pub NameFits : Option (List ℕ) → Type 0
NameFits None = ⊤
NameFits (Some arch) = length arch < 2 ^ 16

-- the lengths fit their bytes
pub record HeaderFits (named : Option (List ℕ)) (start : List ℕ) : Type 0 where
  pub name_fits : NameFits named
  pub start_fits : length start < 2 ^ 64

-- a gate, and the payload of the record behind it
abbrev pub Entry : Type 0
Entry = ℕ × List ℕ

-- a payload behind its length
abbrev pub framed : List ℕ → List ℕ
framed payload = to_be_bytes w32 (length payload) ++ payload

-- gates, each with its record behind it
abbrev pub entries_bytes : List Entry → List ℕ
entries_bytes [] = []
entries_bytes (entry ∷ entries) = entry.0 ∷ framed entry.1 ++ entries_bytes entries

-- what stands before the gate that follows these records
abbrev pub front : Option (List ℕ) → List ℕ → List Entry → List ℕ
front named start entries = header named start ++ entries_bytes entries
