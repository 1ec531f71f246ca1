-- The parts of a group, name by name (Policy 7.2 and 7.3).
use Rattle.std.specs.Prelude.{◌≡◌, ℕ, ◌+◌, ◌≤◌, List, [], ◌∷◌, ◌++◌, ◌↔◌, length}
use Rattle.std.specs.List.{All, Contains}
use Rattle.rules.specs.Configure.{AreConfigurable, ArePreDependsInstalled, AreUnbroken, GroupPasses, IsGreatestPart, members_of, others_of}
use Rattle.rules.specs.Database.{Record, ForMembers, IsPresent, installed_of, pkg_of}
use Rattle.rules.specs.Package.{BreaksOther}
use Rattle.rules.specs.Sound.{MeetsClauses}

-- the package of the other record, if it is present, doesn't break the member
unfoldable pub DoesNotBreak : Record → Record → Type 0
DoesNotBreak member other = IsPresent other → ¬ BreaksOther (pkg_of other) (pkg_of member)

-- the name passes the tests that ask nothing of the other names of its group
unfoldable pub IsReady : List Record → List ℕ → Type 0
IsReady db name = AreConfigurable db (name ∷ []) × ArePreDependsInstalled db (name ∷ []) × AreUnbroken db (name ∷ [])

-- each Depends clause of the packages of these names is met by installed packages and members of the part
unfoldable pub AreSupplied : List Record → List (List ℕ) → List (List ℕ) → Type 0
AreSupplied db part names =
    ForMembers (λ member. MeetsClauses (installed_of db ++ members_of part db) member.relations.depends) names db

-- each Depends clause of the name's package is met by installed packages and members of the part
abbrev pub IsSupplied : List Record → List (List ℕ) → List ℕ → Type 0
IsSupplied db part name = AreSupplied db part (name ∷ [])

-- the part has exactly those names of the group that have the property
abbrev pub IsPartWith : (List ℕ → Type 0) → List (List ℕ) → List (List ℕ) → Type 0
IsPartWith P names part = (name : List ℕ) → Contains part name ↔ (Contains names name × P name)

-- each name of the one list is in the other, and the other way round
abbrev pub HaveSameNames : List (List ℕ) → List (List ℕ) → Type 0
HaveSameNames names others = (name : List ℕ) → Contains names name ↔ Contains others name

-- the part has names of the group alone, and each name of every part of the group that passes
pub record HasWhatPasses (db : List Record) (names part : List (List ℕ)) : Type 0 where
  pub within : All (Contains names) part
  pub greatest : (other : List (List ℕ)) → All (Contains names) other → GroupPasses db other → All (Contains part) other

-- the part has what passes of the group, and is no longer
pub record IsNarrowed (db : List Record) (names part : List (List ℕ)) : Type 0 where
  pub has : HasWhatPasses db names part
  pub no_longer : length part ≤ length names

-- the part has what passes of the group, and each of its names is supplied in it
pub record IsSuppliedPart (db : List Record) (names part : List (List ℕ)) : Type 0 where
  pub has : HasWhatPasses db names part
  pub supplied : All (IsSupplied db part) part

-- a walk over the names has left the part and dropped so many: where it dropped none, each of the names that is left is supplied
pub record IsWalked (db : List Record) (names before left : List (List ℕ)) (count : ℕ) : Type 0 where
  pub narrowed : IsNarrowed db before left
  pub shorter : length left + count ≤ length before
  pub settled : count ≡ 0 → All (λ name. Contains left name → IsSupplied db left name) names

-- what is left has what passes, and is shorter by as many as the count of those that went has grown
pub record IsDroppedTo (db : List Record) (before left : List (List ℕ)) (old new : ℕ) : Type 0 where
  pub narrowed : IsNarrowed db before left
  pub shorter : length left + new ≤ length before + old

-- the name was looked at: it was dropped and counted, or all is as it was and it is supplied, if it is left
pub record IsLookedAt (db : List Record) (name : List ℕ) (before left : List (List ℕ)) (old new : ℕ) : Type 0 where
  pub dropped : IsDroppedTo db before left old new
  pub grown : old ≤ new
  pub settled : new ≡ old → (left ≡ before) × (Contains left name → IsSupplied db left name)

-- no part of the names that passes is without this one
abbrev pub NothingWithout : List Record → List (List ℕ) → List ℕ → Type 0
NothingWithout db names name =
    (part : List (List ℕ)) → All (Contains names) part → GroupPasses db part → ¬ Contains part name → part ≡ []

-- the greatest part that passes of the group's names but for this one is empty
abbrev pub HasNoPartWithout : List Record → List (List ℕ) → List ℕ → Type 0
HasNoPartWithout db names name = (part : List (List ℕ)) → IsGreatestPart db (others_of name names) part → part ≡ []
