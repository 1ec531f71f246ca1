-- What the start says, as premises (dpkg(1), Policy 3.8).
use Rattle.std.specs.Prelude.{◌≡◌, ◌⊎◌, ⊤, ℕ, List, IsTrue, MatchOption}
use Rattle.std.specs.List.{Contains}
use Rattle.rules.specs.Package.{Pkg}
use Rattle.rules.specs.Universe.{Start, Universe}
use Rattle.rules.specs.Version.{SameVersion}
use Rattle.rules.specs.declared.goal.Goal.TheVariants as goal
use Rattle.refutation.specs.Premise.{PairHas}
use Rattle.refutation.specs.declared.line.Premise.{Premise}
use Rattle.refutation.specs.declared.line.Premise.TheVariants as premise

-- the start says that the package is held and stands
abbrev pub IsHeldBy : Start → Pkg → Type 0
IsHeldBy start pkg = (start.name ≡ pkg.name) × IsTrue start.is_held × MatchOption start.standing ⊥ (SameVersion pkg.version)

-- the premise is that one of these pairs is held
abbrev pub IsHoldEach : List ℕ → Premise → Type 0
IsHoldEach pairs reason = (pair : ℕ) × Contains pairs pair × (reason ≡ premise.Hold pair)

-- the premise is that a pair is held of which the start says so
abbrev pub IsHoldBy : Universe → Start → Premise → Type 0
IsHoldBy u start reason = (pair : ℕ) × PairHas u pair (IsHeldBy start) × (reason ≡ premise.Hold pair)

-- the premise is that the name is essential and was present
abbrev pub IsEssentialBy : Start → Premise → Type 0
IsEssentialBy start reason = IsTrue start.is_essential × IsTrue start.is_present × (reason ≡ premise.Essential start.name)

-- the premise is that the name stood, where nothing is to be removed
abbrev pub IsKeepBy : Universe → Start → Premise → Type 0
IsKeepBy u start reason = Contains u.goals goal.NoRemove × MatchOption start.standing ⊥ (λ _. ⊤) × (reason ≡ premise.Keep start.name)

-- one of these three
abbrev pub IsSaidBy : Universe → Start → Premise → Type 0
IsSaidBy u start reason = IsHoldBy u start reason ⊎ (IsEssentialBy start reason ⊎ IsKeepBy u start reason)
