-- Which members are reached from those that are wanted, by the clauses that say what members need.
use Rattle.std.specs.Prelude.{◌≡◌, ℕ, ◌≤◌, ◌<◌, ◌&&◌, Bool, true, List, length, pos, slice_index_or}
use Rattle.std.specs.List.{Contains}
use Rattle.search_settle.specs.Given.{Given, clause_at, is_need_at, places_without}
use Rattle.search_settle.specs.Moves.{Known}
use Rattle.search_settle.specs.Truth.{AreTrue, holds}

-- the set has each selected number that a clause says this number needs
unfoldable pub HasNeeds : Given → (ℕ → Bool) → (ℕ → Bool) → ℕ → Type 0
HasNeeds given selection set number = (place other : ℕ) → Contains (places_without given number) place
    → is_need_at given number place ≡ true → Contains (clause_at given place) (pos other) → selection other ≡ true → set other ≡ true

-- the set has the wanted members, and with a member those that it needs
pub record IsClosedIn (given : Given) (known : Known) (selection set : ℕ → Bool) : Type 0 where
  pub wanted : (number : ℕ) → number ≤ given.numbers → selection number ≡ true → holds known.wanted number ≡ true → set number ≡ true
  pub needed : (number : ℕ) → selection number ≡ true → set number ≡ true → HasNeeds given selection set number

-- the part of a selection that is in a set
abbrev pub part_of : (ℕ → Bool) → (ℕ → Bool) → ℕ → Bool
part_of selection set number = selection number && set number

-- a closed part of a selection that makes all clauses true makes them true
unfoldable pub PartsAreTrue : Given → Known → Type 0
PartsAreTrue given known = (selection set : ℕ → Bool) → AreTrue selection given.clauses → IsClosedIn given known selection set
    → AreTrue (part_of selection set) given.clauses

-- each selected number is in every closed set
unfoldable pub AllReached : Given → Known → (ℕ → Bool) → Type 0
AllReached given known selection = (set : ℕ → Bool) → IsClosedIn given known selection set → (number : ℕ)
    → number ≤ given.numbers → selection number ≡ true → set number ≡ true

-- numbers that were reached so far, in the order in which they were
pub record Found : Type 0 where
  pub marks : List Bool
  pub order : List ℕ

-- each of them is selected, and in every closed set; each has its place in the order
pub record IsFound (given : Given) (known : Known) (selection : ℕ → Bool) (reached : Found) : Type 0 where
  pub selected : (number : ℕ) → holds reached.marks number ≡ true → selection number ≡ true
  pub sound : (set : ℕ → Bool) → IsClosedIn given known selection set → (number : ℕ) → holds reached.marks number ≡ true → set number ≡ true
  pub ordered : (number : ℕ) → holds reached.marks number ≡ true → Contains reached.order number
  pub marked : (number : ℕ) → Contains reached.order number → holds reached.marks number ≡ true

-- more numbers were reached
pub record Extends (old new : Found) : Type 0 where
  pub kept : (number : ℕ) → holds old.marks number ≡ true → holds new.marks number ≡ true
  pub longer : length old.order ≤ length new.order
  pub same : (k : ℕ) → k < length old.order → slice_index_or new.order k 0 ≡ slice_index_or old.order k 0
  pub long : length new.marks ≡ length old.marks
