-- What a universe says by itself, and the clause that says it (Policy 7.2 to 7.5; the goals after apt-get(8)).
use Rattle.std.specs.Prelude.{◌≡◌, ◌≢◌, ℕ, ◌<◌, false, List, ◌⊎◌, ⊤, Some, IsTrue, MatchOption}
use Rattle.std.specs.List.{Any, Contains}
use Rattle.std.specs.declared.cmp.Ordering.TheVariants.{Less}
use Rattle.rules.specs.Package.{Pkg, Meets, MatchesSome, ConflictsWith, BreaksOther}
use Rattle.rules.specs.PlanLaws.{IsEssentialIn}
use Rattle.rules.specs.Universe.{Universe, Start, IsOf, candidate_of}
use Rattle.rules.specs.Version.{version_cmp, SameVersion}
use Rattle.rules.specs.declared.goal.Goal.{Goal}
use Rattle.rules.specs.declared.goal.Goal.TheVariants as goal
use Rattle.refutation.specs.Clause.{HasAt}
use Rattle.refutation.specs.declared.line.Premise.{Premise}
use Rattle.refutation.specs.declared.line.Premise.TheVariants as premise
use Rattle.refutation.specs.declared.literal.Literal.{Literal}
use Rattle.refutation.specs.declared.literal.Literal.TheVariants as literal

-- the pair of this number is there, and its package has the property
abbrev pub PairHas : Universe → ℕ → (Pkg → Type 0) → Type 0
PairHas u number P = HasAt u.pairs number (λ pair. P pair.pkg)

-- the pairs of these numbers are there, and the package of the first stands so to that of the second
abbrev pub PairsAre : Universe → ℕ → ℕ → (Pkg → Pkg → Type 0) → Type 0
PairsAre u number other R = PairHas u number (λ pkg. PairHas u other (R pkg))

-- the literal says that a pair whose package has the property is selected
abbrev pub Selects : Universe → (Pkg → Type 0) → Literal → Type 0
Selects u P (literal.Selected number) = PairHas u number P
Selects u P (literal.Unselected number) = ⊥

-- the literal says that the one pair isn't selected, or that the other isn't
abbrev pub IsEitherOut : ℕ → ℕ → Literal → Type 0
IsEitherOut number other disjunct = (disjunct ≡ literal.Unselected number) ⊎ (disjunct ≡ literal.Unselected other)

-- the first package conflicts with the second, which has another name (Policy 7.4)
abbrev pub ConflictsWithOther : Pkg → Pkg → Type 0
ConflictsWithOther pkg other = (other.name ≢ pkg.name) × ConflictsWith pkg other

-- the first package breaks the second, which has another name (Policy 7.3)
abbrev pub BreaksAnother : Pkg → Pkg → Type 0
BreaksAnother pkg other = (other.name ≢ pkg.name) × BreaksOther pkg other

-- the goal asks for a member: it is an install or an upgrade
abbrev pub AsksForMember : Goal → Type 0
AsksForMember (goal.Install name restriction) = ⊤
AsksForMember (goal.Remove name) = ⊥
AsksForMember (goal.Purge name) = ⊥
AsksForMember (goal.Upgrade name) = ⊤
AsksForMember goal.UpgradeAll = ⊥
AsksForMember goal.NoRemove = ⊥

-- the package is one that the goal asks for: of the name, and in a version that meets the restriction, or the candidate
abbrev pub IsAskedBy : Universe → Goal → Pkg → Type 0
IsAskedBy u (goal.Install name restriction) pkg = (pkg.name ≡ name) × Meets pkg.version restriction
IsAskedBy u (goal.Remove name) pkg = ⊥
IsAskedBy u (goal.Purge name) pkg = ⊥
IsAskedBy u (goal.Upgrade name) pkg = MatchOption (candidate_of u name) ⊥ (λ candidate. IsOf name candidate pkg)
IsAskedBy u goal.UpgradeAll pkg = ⊥
IsAskedBy u goal.NoRemove pkg = ⊥

-- the start says that the package's name is unheld and stands in a lower version, and the package is its candidate
pub record IsUpgradeFrom (u : Universe) (pkg : Pkg) (start : Start) : Type 0 where
  pub name : start.name ≡ pkg.name
  pub unheld : start.is_held ≡ false
  pub standing : List ℕ
  pub candidate : List ℕ
  pub stands : start.standing ≡ Some standing
  pub is_candidate : candidate_of u start.name ≡ Some candidate
  pub lower : version_cmp standing candidate ≡ Less
  pub version : SameVersion pkg.version candidate

-- the goal speaks of the package by itself: a remove or purge of its name, or an upgrade of all where it is an upgrade
abbrev pub SpeaksOf : Universe → Goal → Pkg → Type 0
SpeaksOf u (goal.Install name restriction) pkg = ⊥
SpeaksOf u (goal.Remove name) pkg = pkg.name ≡ name
SpeaksOf u (goal.Purge name) pkg = pkg.name ≡ name
SpeaksOf u (goal.Upgrade name) pkg = ⊥
SpeaksOf u goal.UpgradeAll pkg = Any (IsUpgradeFrom u pkg) u.starts
SpeaksOf u goal.NoRemove pkg = ⊥

-- the literal is what the goal says of the pair: not selected by a remove or purge, selected by an upgrade of all
abbrev pub IsSaidBy : Goal → ℕ → Literal → Type 0
IsSaidBy (goal.Install name restriction) number disjunct = ⊥
IsSaidBy (goal.Remove name) number disjunct = disjunct ≡ literal.Unselected number
IsSaidBy (goal.Purge name) number disjunct = disjunct ≡ literal.Unselected number
IsSaidBy (goal.Upgrade name) number disjunct = ⊥
IsSaidBy goal.UpgradeAll number disjunct = disjunct ≡ literal.Selected number
IsSaidBy goal.NoRemove number disjunct = ⊥

-- the package is the version that stands of a held name
abbrev pub IsHeldVersion : Universe → Pkg → Type 0
IsHeldVersion u pkg = Any (λ start. (start.name ≡ pkg.name) × IsTrue start.is_held
    × MatchOption start.standing ⊥ (SameVersion pkg.version)) u.starts

-- the name stands at the start
abbrev pub StandsAtStart : Universe → List ℕ → Type 0
StandsAtStart u name = Any (λ start. (start.name ≡ name) × MatchOption start.standing ⊥ (λ _. ⊤)) u.starts

-- the universe has what the premise speaks of
abbrev pub IsPremise : Universe → Premise → Type 0
IsPremise u (premise.Same number other) = (number < other) × PairsAre u number other (λ pkg other_pkg. other_pkg.name ≡ pkg.name)
IsPremise u (premise.PreDepends number clause) = PairHas u number (λ pkg. HasAt pkg.relations.pre_depends clause (λ _. ⊤))
IsPremise u (premise.Depends number clause) = PairHas u number (λ pkg. HasAt pkg.relations.depends clause (λ _. ⊤))
IsPremise u (premise.Conflicts number other) = PairsAre u number other ConflictsWithOther
IsPremise u (premise.Breaks number other) = PairsAre u number other BreaksAnother
IsPremise u (premise.Goal number) = HasAt u.goals number AsksForMember
IsPremise u (premise.GoalOn number pair) = HasAt u.goals number (λ asked. PairHas u pair (SpeaksOf u asked))
IsPremise u (premise.Hold number) = PairHas u number (IsHeldVersion u)
IsPremise u (premise.Essential name) = IsEssentialIn u name
IsPremise u (premise.Keep name) = Contains u.goals goal.NoRemove × StandsAtStart u name

-- the literal is in the clause of the premise
abbrev pub IsInPremise : Universe → Premise → Literal → Type 0
IsInPremise u (premise.Same number other) disjunct = IsEitherOut number other disjunct
IsInPremise u (premise.PreDepends number clause) disjunct = (disjunct ≡ literal.Unselected number)
    ⊎ Selects u (λ other. PairHas u number (λ pkg. HasAt pkg.relations.pre_depends clause (MatchesSome other))) disjunct
IsInPremise u (premise.Depends number clause) disjunct = (disjunct ≡ literal.Unselected number)
    ⊎ Selects u (λ other. PairHas u number (λ pkg. HasAt pkg.relations.depends clause (MatchesSome other))) disjunct
IsInPremise u (premise.Conflicts number other) disjunct = IsEitherOut number other disjunct
IsInPremise u (premise.Breaks number other) disjunct = IsEitherOut number other disjunct
IsInPremise u (premise.Goal number) disjunct = Selects u (λ pkg. HasAt u.goals number (λ asked. IsAskedBy u asked pkg)) disjunct
IsInPremise u (premise.GoalOn number pair) disjunct = HasAt u.goals number (λ asked. IsSaidBy asked pair disjunct)
IsInPremise u (premise.Hold number) disjunct = disjunct ≡ literal.Selected number
IsInPremise u (premise.Essential name) disjunct = Selects u (λ pkg. pkg.name ≡ name) disjunct
IsInPremise u (premise.Keep name) disjunct = Selects u (λ pkg. pkg.name ≡ name) disjunct
