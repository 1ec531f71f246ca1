-- The places of the slots. A slot that is deleted leaves its place empty, so that each other keeps its own.
use Rattle.std.specs.Prelude.{◌≡◌, ℕ, ◌+◌, false, List, [], ◌∷◌, map, Option, Some, None, ⊤, IfSome, bytes_eq, slice_get}
use Rattle.std.specs.List.{AllByRecursion, flat_map, list_any}
use Rattle.std.specs.Option.{option_and_then, option_to_list}
use Rattle.rules.specs.FileRecord.{FileRecord}
use Rattle.status_text.specs.Alone.{alone}
use Rattle.status_text.specs.Slot.{FileSlot}
use Rattle.status_text.specs.declared.slot.Slot.TheVariants.{Recorded, Foreign}
use Rattle.status.specs.Slots.{entry_named, names_of}
use Rattle.status.specs.Stored.{IsStored}

-- the slots in the places
abbrev pub slots_at : List (Option FileSlot) → List FileSlot
slots_at places = flat_map option_to_list places

-- the names of the records, each with the number of its place, where the first place has this number
abbrev pub numbered : ℕ → List (Option FileSlot) → List (List ℕ × ℕ)
numbered number [] = []
numbered number (None ∷ places) = numbered (number + 1) places
numbered number (Some (Foreign stanza) ∷ places) = numbered (number + 1) places
numbered number (Some (Recorded entry) ∷ places) = (entry.status.name, number) ∷ numbered (number + 1) places

-- no name is there twice
abbrev pub AreDistinct : List (List ℕ) → Type 0
AreDistinct [] = ⊤
AreDistinct (name ∷ names) = (list_any (λ other. bytes_eq other name) names ≡ false) × AreDistinct names

-- the pairs number the records of the places, whose names are distinct
abbrev pub IsTable : List (List ℕ × ℕ) → List (Option FileSlot) → Type 0
IsTable pairs places = (pairs ≡ numbered 0 places) × AreDistinct (names_of (slots_at places))

-- the slot of the text in each place
abbrev pub slots_read : List ℕ → List (Option (List ℕ)) → List (Option FileSlot)
slots_read arch texts = map (option_and_then (alone arch)) texts

-- each place is empty, or has the text of a slot
abbrev pub AreKept : List ℕ → List (Option (List ℕ)) → Type 0
AreKept arch texts = AllByRecursion (λ place. IfSome place (λ text. (slot : FileSlot) × IsStored arch text slot)) texts

-- what is in a place, if there is such a place and something in it
abbrev pub inside : {A : Type 0} → Option (Option A) → Option A
inside None = None
inside (Some place) = place

-- the entry in a place, if there is one
abbrev pub entry_at : Option (Option FileSlot) → Option FileRecord
entry_at None = None
entry_at (Some None) = None
entry_at (Some (Some (Foreign stanza))) = None
entry_at (Some (Some (Recorded entry))) = Some entry

-- in this place stands the entry of the name
pub record IsAt (name : List ℕ) (places : List (Option FileSlot)) (place : ℕ) : Type 0 where
  pub entry : FileRecord
  pub there : slice_get places place ≡ Some (Some (Recorded entry))
  pub named : entry.status.name ≡ name
  pub entry_is : entry_named name (slots_at places) ≡ Some entry

-- the place of the entry of the name, or that there is none
abbrev pub FindsAt : List ℕ → List (Option FileSlot) → Option ℕ → Type 0
FindsAt name places None = entry_named name (slots_at places) ≡ None
FindsAt name places (Some place) = IsAt name places place
