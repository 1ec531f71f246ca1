-- Clauses over numbers, as they are handed to a search.
use Rattle.std.specs.Prelude.{ℕ, List, ℤ}

-- the greatest number, the clauses, and the literals of a clause that isn't ended
pub record Clauses : Type 0 where
  pub numbers : ℕ
  pub clauses : List (List ℤ)
  pub open_clause : List ℤ
