-- What a plain change asks of what is unpacked, removed and purged, each by itself.
use Rattle.std.specs.Prelude.{◌≢◌, ◌↔◌, ℕ, List}
use Rattle.std.specs.List.{All, Any, Contains}
use Rattle.rules.specs.Database.{Record, HasSoundFlag, IsPresent, IsRemoved}
use Rattle.rules.specs.Legal.{IsNotHeld}
use Rattle.rules.specs.Package.{Atom, BreaksOther, ConflictsWith, MatchesSome, Pkg}
use Rattle.rules.specs.Sound.{HasMember}
use Rattle.rules.specs.Universe.{Universe}
use Rattle.plain.specs.Change.{IsPurgeGoal, IsToPurge, IsToRemove, IsToUnpack, Stays}

-- no package that is to be unpacked is held
abbrev pub UnpackedAreUnheld : List Record → List Pkg → Type 0
UnpackedAreUnheld start members = (pkg : Pkg) → IsToUnpack start members pkg → IsNotHeld start pkg.name

-- no name that is to be removed is held
abbrev pub RemovedAreUnheld : List Record → List Pkg → Type 0
RemovedAreUnheld start members = (name : List ℕ) → IsToRemove members start name → IsNotHeld start name

-- what is to be removed has flag ok
abbrev pub RemovedAreSound : List Record → List Pkg → Type 0
RemovedAreSound start members = All (λ entry. IsPresent entry → ¬ HasMember entry.name members → HasSoundFlag entry) start

-- no name that is to be purged is held
abbrev pub PurgedAreUnheld : Universe → List Record → Type 0
PurgedAreUnheld u start = (name : List ℕ) → IsToPurge u start name → IsNotHeld start name

-- what is removed already, and isn't to be purged, has flag ok
abbrev pub LeftAreSound : Universe → List Record → Type 0
LeftAreSound u start = All (λ entry. IsRemoved entry → ¬ IsPurgeGoal u entry.name → HasSoundFlag entry) start

-- the record, if it is present and of none of these names, isn't held and has flag ok
unfoldable pub MayLeave : List Record → List (List ℕ) → Record → Type 0
MayLeave start names entry = IsPresent entry → ¬ Contains names entry.name → IsNotHeld start entry.name × HasSoundFlag entry

-- the record, if it is removed already, isn't held where it is of one of these names, and else has flag ok
unfoldable pub MayBeLeft : List Record → List (List ℕ) → Record → Type 0
MayBeLeft start names entry = IsRemoved entry
    → (Contains names entry.name → IsNotHeld start entry.name) × (¬ Contains names entry.name → HasSoundFlag entry)

-- a package of the list, of another name than this, matches one of the atoms
abbrev pub IsMatchedByOther : List Pkg → List ℕ → List Atom → Type 0
IsMatchedByOther packages name atoms = Any (λ other. (other.name ≢ name) × MatchesSome other atoms) packages

-- no package of the list conflicts with or breaks another of these of another name
abbrev pub NoneClash : List Pkg → Type 0
NoneClash packages = (pkg other : Pkg) → Contains packages pkg → Contains packages other → other.name ≢ pkg.name
    → (¬ ConflictsWith pkg other) × (¬ BreaksOther pkg other)

-- the package conflicts with and breaks no package of the list of another name
abbrev pub ClashesWithNone : List Pkg → Pkg → Type 0
ClashesWithNone packages pkg = (¬ IsMatchedByOther packages pkg.name pkg.relations.conflicts)
    × (¬ IsMatchedByOther packages pkg.name pkg.relations.breaks)

-- the packages of the second list are those of the first that stay
abbrev pub AreStaying : List Record → List Pkg → List Pkg → Type 0
AreStaying start members staying = (pkg : Pkg) → Contains staying pkg ↔ (Contains members pkg × Stays start pkg)

-- each Pre-Depends clause of the member, if it doesn't stay, is matched by one of these packages of another name
abbrev pub IsReadyBy : List Record → List Pkg → Pkg → Type 0
IsReadyBy start staying member = ¬ Stays start member → All (IsMatchedByOther staying member.name) member.relations.pre_depends
