-- The table that spares comparisons of names: each name has a slot, by a hash of what does not change with the case of its letters.
use Rattle.std.specs.Prelude.{◌≡◌, ℕ, ◌+◌, ◌-◌, ◌*◌, ◌%◌, Bool, true, false, List, length, map, slice_index, slice_index_or}
use Rattle.std.specs.List.{AllByRecursion}
use Rattle.std.specs.Char.{to_ascii_lowercase}

-- the first byte as a small letter, or 0
abbrev pub first_of : List ℕ → ℕ
first_of name = slice_index (map to_ascii_lowercase name) 0

-- the last byte as a small letter, or 0
abbrev pub last_of : List ℕ → ℕ
last_of name = slice_index (map to_ascii_lowercase name) (length name - 1)

-- the slot of a name
abbrev pub slot_of : List ℕ → ℕ
slot_of name = (first_of name + last_of name * 12 + length name % 256 * 11) % 256

-- the slot of the name is taken
abbrev pub is_seen : List Bool → List ℕ → Bool
is_seen slots name = slice_index_or slots (slot_of name) false

-- the slots of all these names are taken
abbrev pub AreSeen : List Bool → List (List ℕ) → Type 0
AreSeen slots names = AllByRecursion (λ name. is_seen slots name ≡ true) names
