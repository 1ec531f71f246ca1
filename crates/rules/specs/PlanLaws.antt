-- What a good plan promises, as a reader would say it.
use Rattle.std.specs.Prelude.{◌≡◌, ◌≢◌, ℕ, List, ◌∷◌, ◌++◌, IsTrue, Some}
use Rattle.std.specs.List.{All, Any, Contains}
use Rattle.rules.specs.Database.{Record, HasDistinctNames, IsQuiet, IsInstalled, IsUnfinished, pkg_of, installed_of}
use Rattle.rules.specs.Legal.{Allowed}
use Rattle.rules.specs.Package.{ConflictsWith, BreaksOther}
use Rattle.rules.specs.Run.{Run, IsGoodPlan, IsPurged}
use Rattle.rules.specs.Sound.{IsAdmittedIn, MeetsClauses, Fulfils, HasMember, HasVersion}
use Rattle.rules.specs.Universe.{Universe}
use Rattle.rules.specs.declared.step.Step.{Step}

-- the name is held and stands at the start in this version
unfoldable pub HoldsOn : Universe → List ℕ → List ℕ → Type 0
HoldsOn u name version =
    Any (λ start. (start.name ≡ name) × IsTrue start.is_held × (start.standing ≡ Some version)) u.starts

-- the name is essential and present at the start
unfoldable pub IsEssentialIn : Universe → List ℕ → Type 0
IsEssentialIn u name = Any (λ start. (start.name ≡ name) × IsTrue start.is_essential × IsTrue start.is_present) u.starts

-- the installed package has what it needs and is at peace with every other that is installed
pub record IsSatisfiedIn (db : List Record) (entry : Record) : Type 0 where
  pub pre_depends : MeetsClauses (installed_of db) entry.relations.pre_depends
  pub depends : MeetsClauses (installed_of db) entry.relations.depends
  pub conflicts : (other : Record) → Contains db other → IsInstalled other → other.name ≢ entry.name
      → ¬ ConflictsWith (pkg_of entry) (pkg_of other)
  pub breaks : (other : Record) → Contains db other → IsInstalled other → other.name ≢ entry.name
      → ¬ BreaksOther (pkg_of entry) (pkg_of other)

-- at this end every goal is met and what is to be purged is gone, every installed package is an admitted pair, every held name that stood has its version, every essential name that was
-- present has a package, and every installed package is satisfied
pub record IsAsAsked (u : Universe) (db : List Record) : Type 0 where
  pub goals : All (Fulfils u (installed_of db)) u.goals
  pub purged : All (IsPurged db) u.goals
  pub admitted : IsAdmittedIn u (installed_of db)
  pub held : (name version : List ℕ) → HoldsOn u name version → HasVersion name version (installed_of db)
  pub essential : (name : List ℕ) → IsEssentialIn u name → HasMember name (installed_of db)
  pub satisfied : (entry : Record) → Contains db entry → IsInstalled entry → IsSatisfiedIn db entry
  pub finished : (entry : Record) → Contains db entry → ¬ IsUnfinished entry

-- what a good plan promises: each step is allowed in the database before it, the database is quiet after
-- each beginning of the steps, and the end is as asked
pub record KeepsPromise (u : Universe) (start : List Record) (steps : List Step) : Type 0 where
  pub reaches : (before rest : List Step) → steps ≡ before ++ rest → (reached : List Record) × Run u start before reached
  pub allowed : (before rest : List Step) (step : Step) (reached : List Record) → steps ≡ before ++ step ∷ rest
      → Run u start before reached → Allowed u reached step
  pub quiet : (before rest : List Step) (reached : List Record) → steps ≡ before ++ rest → Run u start before reached
      → IsQuiet reached
  pub as_asked : (finish : List Record) → Run u start steps finish → IsAsAsked u finish

-- a good plan keeps its promise
abbrev pub GoodPlanKeepsPromise : Type 0
GoodPlanKeepsPromise = (u : Universe) (start : List Record) (steps : List Step) → HasDistinctNames start
    → IsGoodPlan u start steps → KeepsPromise u start steps
