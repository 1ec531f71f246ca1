-- The clauses of a universe as a search takes them: over the numbers of its pairs, each with the premise that says it.
use Rattle.std.specs.Prelude.{◌≡◌, zero, suc, List, map, length, ℤ, pos, negsuc}
use Rattle.std.specs.List.{AllZip, Contains}
use Rattle.clauses.specs.Clauses.{Clauses}
use Rattle.rules.specs.Universe.{Universe}
use Rattle.refutation.specs.Clause.{IsListOf}
use Rattle.refutation.specs.Premise.{IsInPremise, IsPremise}
use Rattle.refutation.specs.declared.line.Premise.{Premise}
use Rattle.refutation.specs.declared.literal.Literal.{Literal}
use Rattle.refutation.specs.declared.literal.Literal.TheVariants as literal

-- premises, and clauses over numbers
pub record Encoding : Type 0 where
  pub premises : List Premise
  pub clauses : Clauses

-- a literal as clauses over numbers have it: n where the pair n is selected, -n where it isn't
abbrev pub signed_number : Literal → ℤ
signed_number (literal.Selected number) = pos number
signed_number (literal.Unselected zero) = pos 0
signed_number (literal.Unselected (suc below)) = negsuc below

-- the clause has just the literals of the premise's clause
unfoldable pub IsClauseOf : Universe → Premise → List ℤ → Type 0
IsClauseOf u premise clause = (literals : List Literal) × IsListOf (IsInPremise u premise) literals × (clause ≡ map signed_number literals)

-- an encoding of the universe: over the numbers of its pairs, each clause is that of its premise, and the premises are
-- just those of the universe
pub record IsEncoding (u : Universe) (encoding : Encoding) : Type 0 where
  pub numbers : encoding.clauses.numbers ≡ length u.pairs
  pub clauses : AllZip (IsClauseOf u) encoding.premises encoding.clauses.clauses
  pub sound : (reason : Premise) → Contains encoding.premises reason → IsPremise u reason
  pub every : (reason : Premise) → IsPremise u reason → Contains encoding.premises reason
