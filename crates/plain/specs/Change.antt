-- When a change from a start to selected packages is plain: when no step of it can stand in another's way
-- (Policy 7.2 to 7.4; dpkg(1)). That such changes are set apart is this project's own. The members are the
-- counting packages of the selected pairs.
use Rattle.std.specs.Prelude.{◌≢◌, ℕ, Bool, List, ◌++◌, map}
use Rattle.std.specs.List.{Any, All, Contains, filter}
use Rattle.rules.specs.Database.{Record, HasRecord, IsPresent, IsInstalled, IsRemoved, HasSoundFlag, pkg_of}
use Rattle.rules.specs.Legal.{IsNotHeld}
use Rattle.rules.specs.Package.{Pkg, Atom, MatchesSome, ConflictsWith, BreaksOther}
use Rattle.rules.specs.Sound.{HasMember, IsAcceptable, selected}
use Rattle.rules.specs.State.{is_present_state}
use Rattle.rules.specs.Universe.{Universe, StandsAs}
use Rattle.rules.specs.Verdict.{IsBuiltOn}
use Rattle.rules.specs.Version.{SameVersion}
use Rattle.rules.specs.declared.goal.Goal.TheVariants as goal
use Rattle.plain.specs.Counted.{IsCounted}

-- the packages that are present at the start, and the members
abbrev pub old_and_new : List Record → List Pkg → List Pkg
old_and_new start members = map pkg_of (filter (λ entry. is_present_state entry.state) start) ++ members

-- no package that is present at the start or a member conflicts with or breaks another of these of another name
unfoldable pub HaveNoClash : List Record → List Pkg → Type 0
HaveNoClash start members = (pkg other : Pkg) → Contains (old_and_new start members) pkg
    → Contains (old_and_new start members) other → other.name ≢ pkg.name → (¬ ConflictsWith pkg other) × (¬ BreaksOther pkg other)

-- the member stays: its version is installed with flag ok at the start
unfoldable pub Stays : List Record → Pkg → Type 0
Stays start member =
    HasRecord (λ entry. IsInstalled entry × HasSoundFlag entry × SameVersion entry.version member.version) member.name start

-- the clause is matched by a member of another name that stays
unfoldable pub IsMetByStaying : List Record → List Pkg → List ℕ → List Atom → Type 0
IsMetByStaying start members name clause =
    Any (λ other. (other.name ≢ name) × Stays start other × MatchesSome other clause) members

-- each Pre-Depends clause of the member, if it doesn't stay, is matched by one of another name that stays
abbrev pub IsReady : List Record → List Pkg → Pkg → Type 0
IsReady start members member =
    ¬ Stays start member → All (IsMetByStaying start members member.name) member.relations.pre_depends

-- the package is to be unpacked: it is a member, and its version doesn't stand
abbrev pub IsToUnpack : List Record → List Pkg → Pkg → Type 0
IsToUnpack start members pkg = Contains members pkg × ¬ StandsAs start pkg.name pkg.version

-- the name is to be removed: it is present and has no member
abbrev pub IsToRemove : List Pkg → List Record → List ℕ → Type 0
IsToRemove members db name = HasRecord IsPresent name db × ¬ HasMember name members

-- no name is to be removed
abbrev pub HasNothingToRemove : List Pkg → List Record → Type 0
HasNothingToRemove members db = (name : List ℕ) → ¬ IsToRemove members db name

-- a goal is to purge the name
unfoldable pub IsPurgeGoal : Universe → List ℕ → Type 0
IsPurgeGoal u name = Contains u.goals (goal.Purge name)

-- the name is to be purged: a goal says so, and configuration files of it are left
abbrev pub IsToPurge : Universe → List Record → List ℕ → Type 0
IsToPurge u db name = IsPurgeGoal u name × HasRecord IsRemoved name db

-- a plain change: nothing that was present or is selected is against another, what doesn't stay finds its
-- Pre-Depends among what stays, nothing that is touched is held, and no flag is left that no step mends
pub record IsPlain (u : Universe) (start : List Record) (members : List Pkg) : Type 0 where
  pub no_clash : HaveNoClash start members
  pub ready : All (IsReady start members) members
  pub unpacked_unheld : (pkg : Pkg) → IsToUnpack start members pkg → IsNotHeld start pkg.name
  pub removed_unheld : (name : List ℕ) → IsToRemove members start name → IsNotHeld start name
  pub purged_unheld : (name : List ℕ) → IsToPurge u start name → IsNotHeld start name
  pub removed_sound : All (λ entry. IsPresent entry → ¬ HasMember entry.name members → HasSoundFlag entry) start
  pub left_sound : All (λ entry. IsRemoved entry → ¬ IsPurgeGoal u entry.name → HasSoundFlag entry) start

-- a plain change to an acceptable selection, over a universe that is built on the start and counted by it
pub record IsPlainChange (u : Universe) (start : List Record) (selection : ℕ → Bool) : Type 0 where
  pub built : IsBuiltOn start u
  pub counted : IsCounted start u
  pub acceptable : IsAcceptable u selection
  pub plain : IsPlain u start (selected u selection)
