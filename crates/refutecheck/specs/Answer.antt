-- The clause of a premise and of a line, as a list of its literals.
use Rattle.std.specs.Prelude.{◌≡◌, ℕ, List, [], ◌∷◌, ◌++◌, ◌⊎◌, ⊤, Option, Some, None, Bool, MatchOption, length, slice_get}
use Rattle.std.specs.List.{AllZip}
use Rattle.std.specs.declared.cmp.Ordering.TheVariants.{Less}
use Rattle.rules.specs.Package.{Atom, MatchesSome}
use Rattle.rules.specs.Sound.{IsAcceptable}
use Rattle.rules.specs.Universe.{Universe}
use Rattle.rules.specs.Version.{SameVersion, version_cmp}
use Rattle.refutation.specs.Clause.{IsListOf}
use Rattle.refutation.specs.Premise.{IsInPremise, IsPremise, Selects}
use Rattle.refutation.specs.Refutation.{AreGoodLines, IsAccepted, IsFirstBad, IsGoodLine, IsInLine}
use Rattle.refutation.specs.declared.line.Line.{Line}
use Rattle.refutation.specs.declared.line.Line.TheVariants as line
use Rattle.refutation.specs.declared.line.Premise.{Premise}
use Rattle.refutation.specs.declared.literal.Literal.{Literal}
use Rattle.refutation.specs.declared.literal.Literal.TheVariants as literal
use Rattle.refutecheck.specs.declared.verdict.Verdict.{Verdict}
use Rattle.refutecheck.specs.declared.verdict.Verdict.TheVariants as verdict

-- a clause is answered exactly where the fact holds, and the list has just its literals
abbrev pub IsClauseWhere : Type 0 → (Literal → Type 0) → Option (List Literal) → Type 0
IsClauseWhere holds clause answer = MatchOption answer (¬ holds) (λ literals. holds × IsListOf clause literals)

-- a list is answered exactly where the premise is one of the universe, and it has just the literals of its clause
abbrev pub IsAnswer : Universe → Premise → Option (List Literal) → Type 0
IsAnswer u premise answer = IsClauseWhere (IsPremise u premise) (IsInPremise u premise) answer

-- a list is answered exactly where the line is good behind the earlier ones, and it has just the literals of its clause
abbrev pub IsLineAnswer : Universe → List Line → Line → Option (List Literal) → Type 0
IsLineAnswer u earlier line answer = IsClauseWhere (IsGoodLine u earlier line) (IsInLine u line) answer

-- the list has just the literals of the clause of the line
abbrev pub IsClauseOf : Universe → Line → List Literal → Type 0
IsClauseOf u line literals = IsListOf (IsInLine u line) literals

-- the literal says that the pair isn't selected, or that one is whose package matches an atom of the list
abbrev pub IsOutOrMatching : Universe → ℕ → List Atom → Literal → Type 0
IsOutOrMatching u number atoms disjunct =
    (disjunct ≡ literal.Unselected number) ⊎ Selects u (λ other. MatchesSome other atoms) disjunct

-- a list is answered exactly where there is a clause of atoms, and it has just the literals of the pair and these atoms
abbrev pub IsNeedOf : Universe → ℕ → Option (List Atom) → Option (List Literal) → Type 0
IsNeedOf u number clause None = clause ≡ None
IsNeedOf u number clause (Some literals) = (atoms : List Atom) × (clause ≡ Some atoms) × IsListOf (IsOutOrMatching u number atoms) literals

-- the verdict on the lines: yes exactly where they are accepted, and else the number of the first bad one
abbrev pub IsVerdict : Universe → List Line → Verdict → Type 0
IsVerdict u lines verdict.Yes = IsAccepted u lines
IsVerdict u lines (verdict.No number) = IsFirstBad u lines number

-- where the verdict is yes, no selection is acceptable
abbrev pub Refutes : Universe → Verdict → Type 0
Refutes u verdict.Yes = (selection : ℕ → Bool) → ¬ IsAcceptable u selection
Refutes u (verdict.No number) = ⊤

-- there is a version that stands and a candidate, the first is lower, and the version is the candidate
abbrev pub IsLowerThanCandidate : Option (List ℕ) → Option (List ℕ) → List ℕ → Type 0
IsLowerThanCandidate standing candidate version = MatchOption standing ⊥ (λ lower. MatchOption candidate ⊥
    (λ higher. (version_cmp lower higher ≡ Less) × SameVersion version higher))

-- the lines are good, and these are the lists of their clauses
pub record AreJudged (u : Universe) (lines : List Line) (clauses : List (List Literal)) : Type 0 where
  pub zip : AllZip (IsClauseOf u) lines clauses
  pub good : AreGoodLines u lines
  pub many : length clauses ≡ length lines

-- the line is a premise, and the one at this place of the list is the same
abbrev pub IsRepeatedAt : List Line → ℕ → Line → Type 0
IsRepeatedAt lines place repeated =
    ((premise : Premise) × (repeated ≡ line.Premise premise)) × (slice_get lines place ≡ Some repeated)

-- there is a last clause, and it has no literal
abbrev pub EndsWithNone : List (List Literal) → Type 0
EndsWithNone clauses = (earlier : List (List Literal)) × (clauses ≡ earlier ++ [] ∷ [])
