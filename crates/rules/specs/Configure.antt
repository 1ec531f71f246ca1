-- What a group of packages needs to be configured together (Policy 7.2 and 7.3).
use Rattle.std.specs.Prelude.{ℕ, ◌<◌, not, List, ◌++◌, map, length, bytes_eq, Bool, ◌&&◌}
use Rattle.std.specs.List.{Any, All, Contains, filter}
use Rattle.rules.specs.Database.{Record, HasRecord, IsPresent, IsUnconfigured, HasSoundFlag, ForOthers, ForMembers, pkg_of, installed_of}
use Rattle.rules.specs.Package.{Pkg, BreaksOther}
use Rattle.rules.specs.Sound.{MeetsClauses}
use Rattle.rules.specs.State.{is_present_state}
use Rattle.rules.specs.Step.{is_among}

-- the record may be configured: unpacked, half-configured or in a trigger state, with flag ok
abbrev pub IsConfigurable : Record → Type 0
IsConfigurable entry = IsUnconfigured entry × HasSoundFlag entry

-- the record is present and of one of the names, as a test
abbrev pub is_present_among : List (List ℕ) → Record → Bool
is_present_among names entry = is_present_state entry.state && is_among names entry

-- the present packages of these names
abbrev pub members_of : List (List ℕ) → List Record → List Pkg
members_of names db = map pkg_of (filter (is_present_among names) db)

-- the name has a record that may be configured
unfoldable pub HasConfigurable : List Record → List ℕ → Type 0
HasConfigurable db name = HasRecord IsConfigurable name db

-- each name of the group has a record that may be configured
unfoldable pub AreConfigurable : List Record → List (List ℕ) → Type 0
AreConfigurable db names = All (HasConfigurable db) names

-- each Pre-Depends clause of a member is met by installed packages (Policy 7.2)
unfoldable pub ArePreDependsInstalled : List Record → List (List ℕ) → Type 0
ArePreDependsInstalled db names =
    ForMembers (λ member. MeetsClauses (installed_of db) member.relations.pre_depends) names db

-- each Depends clause of a member is met by installed packages and members (Policy 7.2)
unfoldable pub AreDependsInstalled : List Record → List (List ℕ) → Type 0
AreDependsInstalled db names =
    ForMembers (λ member. MeetsClauses (installed_of db ++ members_of names db) member.relations.depends) names db

-- no present package of another name breaks the member, if it is present (Policy 7.3)
unfoldable pub IsUnbroken : List Record → Record → Type 0
IsUnbroken db member = IsPresent member → ForOthers (λ other. IsPresent other → ¬ BreaksOther (pkg_of other) (pkg_of member)) member.name db

-- no member is broken
unfoldable pub AreUnbroken : List Record → List (List ℕ) → Type 0
AreUnbroken db names = ForMembers (IsUnbroken db) names db

-- the group passes the tests but for the one of its parts
pub record GroupPasses (db : List Record) (names : List (List ℕ)) : Type 0 where
  pub configurable : AreConfigurable db names
  pub pre_depends : ArePreDependsInstalled db names
  pub depends : AreDependsInstalled db names
  pub unbroken : AreUnbroken db names

-- a part of the group that has a name of it and not all
pub record IsProperPart (part names : List (List ℕ)) : Type 0 where
  pub some : 0 < length part
  pub within : All (Contains names) part
  pub proper : Any (λ name. ¬ Contains part name) names

-- no proper part of the group could be configured by itself
unfoldable pub IsIndivisible : List Record → List (List ℕ) → Type 0
IsIndivisible db names = (part : List (List ℕ)) → IsProperPart part names → ¬ GroupPasses db part

-- the names of the group but for this one
abbrev pub others_of : List ℕ → List (List ℕ) → List (List ℕ)
others_of name names = filter (λ other. not (bytes_eq other name)) names

-- the greatest part of the group that passes: it has each name of every part that does
pub record IsGreatestPart (db : List Record) (names part : List (List ℕ)) : Type 0 where
  pub within : All (Contains names) part
  pub passes : GroupPasses db part
  pub greatest : (other : List (List ℕ)) → All (Contains names) other → GroupPasses db other → All (Contains part) other
