-- Where each literal occurs.
use Rattle.std.specs.Prelude.{◌≡◌, ◌⊎◌, ℕ, ◌+◌, ◌*◌, ◌<◌, List, [], length, ℤ, pos, negsuc, slice_index_or}
use Rattle.std.specs.List.{Contains}

-- the place of a literal's list
abbrev pub place_of : ℤ → ℕ
place_of (pos number) = 2 * number
place_of (negsuc below) = 2 * (below + 1) + 1

-- the places that are listed under the one of a literal
abbrev pub listed : List (List ℕ) → ℤ → List ℕ
listed lists literal = slice_index_or lists (place_of literal) []

-- of the first clauses each is listed under each of its literals that has a list, and no other is listed
pub record ListsFirst (lists : List (List ℕ)) (clauses : List (List ℤ)) (count : ℕ) : Type 0 where
  pub each : (place : ℕ) (literal : ℤ) → place < count → Contains (slice_index_or clauses place []) literal
      → place_of literal < length lists → Contains (listed lists literal) place
  pub within : (at place : ℕ) → Contains (slice_index_or lists at []) place → place < length clauses

-- a clause was put under each of these literals that has a list, and nothing else was changed
pub record Gains (old new : List (List ℕ)) (literals : List ℤ) (clause : ℕ) : Type 0 where
  pub long : length new ≡ length old
  pub kept : (at place : ℕ) → Contains (slice_index_or old at []) place → Contains (slice_index_or new at []) place
  pub each : (literal : ℤ) → Contains literals literal → place_of literal < length old → Contains (listed new literal) clause
  pub only : (at place : ℕ) → Contains (slice_index_or new at []) place → (place ≡ clause) ⊎ Contains (slice_index_or old at []) place
