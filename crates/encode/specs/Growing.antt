-- Encodings while their premises are gathered.
use Rattle.std.specs.Prelude.{◌≡◌, ◌↔◌, ◌⊎◌, ⊤, ℕ, ◌<◌, ◌+◌, [], Some}
use Rattle.std.specs.List.{AllZip, Contains, slice_get}
use Rattle.rules.specs.Package.{Pkg}
use Rattle.rules.specs.Universe.{Universe}
use Rattle.universe_parts.specs.Parts.{packages_of}
use Rattle.refutation.specs.declared.line.Premise.{Premise}
use Rattle.refutation.specs.declared.line.Premise.TheVariants as premise
use Rattle.encode.specs.Encoding.{Encoding, IsClauseOf}

-- each clause is that of its premise, and no clause is open
pub record IsGathered (u : Universe) (encoding : Encoding) : Type 0 where
  pub clauses : AllZip (IsClauseOf u) encoding.premises encoding.clauses.clauses
  pub opened : encoding.clauses.open_clause ≡ []

-- one encoding grows into another by the premises of a kind, with their clauses
pub record Grows (u : Universe) (old new : Encoding) (Kind : Premise → Type 0) : Type 0 where
  pub gathers : IsGathered u old → IsGathered u new
  pub adds : (reason : Premise) → Contains new.premises reason ↔ (Contains old.premises reason ⊎ Kind reason)
  pub numbers : new.clauses.numbers ≡ old.clauses.numbers

-- of one of the first kinds, counted from 0
abbrev pub IsOfFirst : (ℕ → Premise → Type 0) → ℕ → Premise → Type 0
IsOfFirst Kind count reason = (place : ℕ) × (place < count) × Kind place reason

-- the package is that of the pair of the number
abbrev pub PkgIsAt : Universe → ℕ → Pkg → Type 0
PkgIsAt u number pkg = (place : ℕ) × (number ≡ place + 1) × (slice_get (packages_of u.pairs) place ≡ Some pkg)

-- it is a clause of Pre-Depends, or of Depends, of the pair of the number
abbrev pub IsPreDependsOf : ℕ → Premise → Type 0
IsPreDependsOf number reason = (clause : ℕ) × (reason ≡ premise.PreDepends number clause)

abbrev pub IsDependsOf : ℕ → Premise → Type 0
IsDependsOf number reason = (clause : ℕ) × (reason ≡ premise.Depends number clause)

-- it speaks of the goal of this number
abbrev pub IsOfGoal : ℕ → Premise → Type 0
IsOfGoal number (premise.Same pair other) = ⊥
IsOfGoal number (premise.PreDepends pair clause) = ⊥
IsOfGoal number (premise.Depends pair clause) = ⊥
IsOfGoal number (premise.Conflicts pair other) = ⊥
IsOfGoal number (premise.Breaks pair other) = ⊥
IsOfGoal number (premise.Goal asked) = asked ≡ number
IsOfGoal number (premise.GoalOn asked pair) = asked ≡ number
IsOfGoal number (premise.Hold pair) = ⊥
IsOfGoal number (premise.Essential name) = ⊥
IsOfGoal number (premise.Keep name) = ⊥

-- it says what the pair of this number needs
abbrev pub IsNeedOf : ℕ → Premise → Type 0
IsNeedOf number (premise.Same pair other) = ⊥
IsNeedOf number (premise.PreDepends pair clause) = pair ≡ number
IsNeedOf number (premise.Depends pair clause) = pair ≡ number
IsNeedOf number (premise.Conflicts pair other) = ⊥
IsNeedOf number (premise.Breaks pair other) = ⊥
IsNeedOf number (premise.Goal asked) = ⊥
IsNeedOf number (premise.GoalOn asked pair) = ⊥
IsNeedOf number (premise.Hold pair) = ⊥
IsNeedOf number (premise.Essential name) = ⊥
IsNeedOf number (premise.Keep name) = ⊥

-- it says what the pair of this number is against
abbrev pub IsAgainstOf : ℕ → Premise → Type 0
IsAgainstOf number (premise.Same pair other) = pair ≡ number
IsAgainstOf number (premise.PreDepends pair clause) = ⊥
IsAgainstOf number (premise.Depends pair clause) = ⊥
IsAgainstOf number (premise.Conflicts pair other) = pair ≡ number
IsAgainstOf number (premise.Breaks pair other) = pair ≡ number
IsAgainstOf number (premise.Goal asked) = ⊥
IsAgainstOf number (premise.GoalOn asked pair) = ⊥
IsAgainstOf number (premise.Hold pair) = ⊥
IsAgainstOf number (premise.Essential name) = ⊥
IsAgainstOf number (premise.Keep name) = ⊥

-- it speaks of what stands at the start
abbrev pub IsOfStart : Premise → Type 0
IsOfStart (premise.Same pair other) = ⊥
IsOfStart (premise.PreDepends pair clause) = ⊥
IsOfStart (premise.Depends pair clause) = ⊥
IsOfStart (premise.Conflicts pair other) = ⊥
IsOfStart (premise.Breaks pair other) = ⊥
IsOfStart (premise.Goal asked) = ⊥
IsOfStart (premise.GoalOn asked pair) = ⊥
IsOfStart (premise.Hold pair) = ⊤
IsOfStart (premise.Essential name) = ⊤
IsOfStart (premise.Keep name) = ⊤

-- it speaks of a goal, says what a pair needs, or says what a pair is against
abbrev pub IsGoalAsked : Premise → Type 0
IsGoalAsked reason = (number : ℕ) × IsOfGoal number reason

abbrev pub IsNeed : Premise → Type 0
IsNeed reason = (number : ℕ) × IsNeedOf number reason

abbrev pub IsAgainst : Premise → Type 0
IsAgainst reason = (number : ℕ) × IsAgainstOf number reason
