-- Places of a list that were reached so far. A place is counted from 0.
use Rattle.std.specs.Prelude.{◌≡◌, ℕ, ◌+◌, ◌≤◌, ◌<◌, Bool, true, false, List, [], ◌∷◌, length, slice_index_or}
use Rattle.std.specs.List.{Contains}

-- whether a place is marked
abbrev pub has : List Bool → ℕ → Bool
has marks place = slice_index_or marks place false

-- the marks of all places, and the marked places in the order in which they were reached
pub record ReachedPlaces : Type 0 where
  pub marks : List Bool
  pub order : List ℕ

-- each marked place is in the order
pub record IsOrdered (reached : ReachedPlaces) : Type 0 where
  pub each : (place : ℕ) → has reached.marks place ≡ true → Contains reached.order place

-- more places were reached
pub record Extends (old new : ReachedPlaces) : Type 0 where
  pub ordered : IsOrdered old → IsOrdered new
  pub kept : (place : ℕ) → has old.marks place ≡ true → has new.marks place ≡ true
  pub longer : length old.order ≤ length new.order
  pub same : (turn : ℕ) → turn < length old.order → slice_index_or new.order turn 0 ≡ slice_index_or old.order turn 0
  pub long : length new.marks ≡ length old.marks

-- the numbers of the marked places, ascending, where the first place has this number
abbrev pub numbers_from : ℕ → List Bool → List ℕ
numbers_from number [] = []
numbers_from number (true ∷ marks) = number ∷ numbers_from (number + 1) marks
numbers_from number (false ∷ marks) = numbers_from (number + 1) marks
