-- The status database (dpkg(1), "Package states"): a list of records in file order, with distinct names.
use Rattle.std.specs.Prelude.{◌≡◌, ◌≢◌, ℕ, Bool, not, List, map, ◌&&◌, ◌||◌, IsTrue, Option}
use Rattle.std.specs.List.{Any, All, AllPairs, Contains, filter}
use Rattle.rules.specs.Package.{Pkg, Relations, ConflictsWith}
use Rattle.rules.specs.State.{is_present_state, is_unconfigured_state, is_unfinished_state, is_installed_state, is_not_installed_state, is_config_files_state, is_sound_flag, is_hold}
use Rattle.rules.specs.declared.status.Flag.{Flag}
use Rattle.rules.specs.declared.status.State.{State}
use Rattle.rules.specs.declared.status.Want.{Want}

-- what the database knows of a name
-- the version is that of its stanza, and empty where that has none; the relations are those of a present
-- package's stanza, and none of another's; the config version is the version last configured
pub record Record : Type 0 where
  pub name : List ℕ
  pub state : State
  pub want : Want
  pub flag : Flag
  pub version : List ℕ
  pub config_version : Option (List ℕ)
  pub relations : Relations
  pub is_essential : Bool

-- stands, as a test
abbrev pub stands : Record → Bool
stands entry = (is_unconfigured_state entry.state || is_installed_state entry.state) && is_sound_flag entry.flag

-- unfinished, as a test: in a state in which something is left to be done, or not sound
abbrev pub is_unfinished : Record → Bool
is_unfinished entry = is_unfinished_state entry.state
    || (not (is_sound_flag entry.flag) && not (is_not_installed_state entry.state))

-- unfinished: half-installed, unpacked, half-configured or in a trigger state, or to be installed again unless it is
-- not-installed
abbrev pub IsUnfinished : Record → Type 0
IsUnfinished entry = IsTrue (is_unfinished entry)

-- present: half-installed, unpacked, half-configured, in a trigger state or installed
abbrev pub IsPresent : Record → Type 0
IsPresent entry = IsTrue (is_present_state entry.state)

-- unconfigured: unpacked, half-configured or in a trigger state
abbrev pub IsUnconfigured : Record → Type 0
IsUnconfigured entry = IsTrue (is_unconfigured_state entry.state)

-- installed: in the state installed
abbrev pub IsInstalled : Record → Type 0
IsInstalled entry = IsTrue (is_installed_state entry.state)

-- removed: configuration files alone are left
abbrev pub IsRemoved : Record → Type 0
IsRemoved entry = IsTrue (is_config_files_state entry.state)

-- the flag is ok
abbrev pub HasSoundFlag : Record → Type 0
HasSoundFlag entry = IsTrue (is_sound_flag entry.flag)

-- stands: unpacked, half-configured, in a trigger state or installed, with flag ok
abbrev pub Stands : Record → Type 0
Stands entry = IsTrue (stands entry)

-- held: want hold
abbrev pub IsHeld : Record → Type 0
IsHeld entry = IsTrue (is_hold entry.want)

-- essential: marked so in the stanza (Policy 5.6.9)
abbrev pub IsEssential : Record → Type 0
IsEssential entry = IsTrue entry.is_essential

-- the package of a present record, as its stanza gives it
abbrev pub pkg_of : Record → Pkg
pkg_of entry = record { name = entry.name; version = entry.version; relations = entry.relations }

-- the record of the name has the property
abbrev pub HasRecord : (Record → Type 0) → List ℕ → List Record → Type 0
HasRecord P name db = Any (λ entry. (entry.name ≡ name) × P entry) db

-- each record of another name has the property
abbrev pub ForOthers : (Record → Type 0) → List ℕ → List Record → Type 0
ForOthers P name db = All (λ other. other.name ≢ name → P other) db

-- a record of another name has the property
abbrev pub SomeOther : (Record → Type 0) → List ℕ → List Record → Type 0
SomeOther P name db = Any (λ other. (other.name ≢ name) × P other) db

-- each record of these names has the property
abbrev pub ForMembers : (Record → Type 0) → List (List ℕ) → List Record → Type 0
ForMembers P names db = All (λ member. Contains names member.name → P member) db

-- every record of a name is the only one of it
unfoldable pub HasDistinctNames : List Record → Type 0
HasDistinctNames db = AllPairs (λ earlier later. earlier.name ≢ later.name) db

-- the package of the first record doesn't conflict with that of the second, if both are present and of two names
unfoldable pub HasNoConflictWith : Record → Record → Type 0
HasNoConflictWith entry other =
    IsPresent entry → IsPresent other → entry.name ≢ other.name → ¬ ConflictsWith (pkg_of entry) (pkg_of other)

-- quiet: no present package has a Conflicts atom that a present package of another name matches
unfoldable pub IsQuiet : List Record → Type 0
IsQuiet db = All (λ entry. All (HasNoConflictWith entry) db) db

-- the installed packages, as their own stanzas give them
abbrev pub installed_of : List Record → List Pkg
installed_of db = map pkg_of (filter (λ entry. is_installed_state entry.state) db)
