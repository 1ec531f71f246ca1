-- What holds of the database while a plain change is made: from the last unpack to the first purge.
use Rattle.std.specs.Prelude.{◌≡◌, ℕ, ◌+◌, Bool, not, List, [], ◌∷◌, map, ◌&&◌, if◌then◌else◌, bytes_eq}
use Rattle.std.specs.List.{All, Contains, filter, list_any}
use Rattle.rules.specs.Database.{Record, HasRecord, HasDistinctNames, IsQuiet, IsPresent, IsInstalled, IsRemoved, IsHeld, IsEssential, HasSoundFlag, Stands, pkg_of}
use Rattle.rules.specs.Configure.{AreUnbroken}
use Rattle.rules.specs.Package.{Pkg}
use Rattle.rules.specs.Sound.{HasMember}
use Rattle.rules.specs.State.{is_present_state, is_installed_state, is_unconfigured_state}
use Rattle.rules.specs.Universe.{Universe}
use Rattle.rules.specs.Unpack.{HasNoConflict, BreaksNone}
use Rattle.plain.specs.Change.{old_and_new, Stays, IsPurgeGoal}

-- each present package is one that was present at the start, or a member
unfoldable pub HasOldAndNew : List Record → List Pkg → List Record → Type 0
HasOldAndNew start members db = All (λ entry. IsPresent entry → Contains (old_and_new start members) (pkg_of entry)) db

-- the database is quiet, and neither a conflict nor a break can stand in the way of a step
pub record IsUndisturbed (start : List Record) (members : List Pkg) (db : List Record) : Type 0 where
  pub quiet : IsQuiet db
  pub apart : (pkg : Pkg) → Contains (old_and_new start members) pkg → HasNoConflict db pkg
  pub breaks_none : (pkg : Pkg) → Contains (old_and_new start members) pkg → BreaksNone db pkg
  pub unbroken : (names : List (List ℕ)) → AreUnbroken db names

-- the record may go: it is of a package of the start or a member, with flag ok, not held and not essential
pub record IsFree (start : List Record) (members : List Pkg) (entry : Record) : Type 0 where
  pub was : Contains (old_and_new start members) (pkg_of entry)
  pub sound : HasSoundFlag entry
  pub unheld : ¬ IsHeld entry
  pub inessential : ¬ IsEssential entry

-- underway: each member stands with its own relations, and is installed if it stays; what else is present may go;
-- and of what is removed the flag is ok, or it may be purged
pub record IsUnderway (u : Universe) (start : List Record) (members : List Pkg) (db : List Record) : Type 0 where
  pub distinct : HasDistinctNames db
  pub standing : (pkg : Pkg) → Contains members pkg → HasRecord (λ entry. Stands entry × (pkg_of entry ≡ pkg)) pkg.name db
  pub staying : (pkg : Pkg) → Contains members pkg → Stays start pkg
      → HasRecord (λ entry. IsInstalled entry × (pkg_of entry ≡ pkg)) pkg.name db
  pub free : All (λ entry. IsPresent entry → ¬ HasMember entry.name members → IsFree start members entry) db
  pub sound : All (λ entry. IsRemoved entry → ¬ IsPurgeGoal u entry.name → HasSoundFlag entry) db
  pub unheld : All (λ entry. IsRemoved entry → IsPurgeGoal u entry.name → ¬ IsHeld entry) db

-- a member has the name, as a test
abbrev pub is_member : List Pkg → List ℕ → Bool
is_member members name = list_any (λ member. bytes_eq member.name name) members

-- the record is of a name to be removed, as a test
abbrev pub is_to_remove : List Pkg → Record → Bool
is_to_remove members entry = is_present_state entry.state && not (is_member members entry.name)

-- the steps that a record to be removed needs at most: its removal, and if it is installed a deconfigure
abbrev pub steps_for : List Pkg → Record → ℕ
steps_for members entry = if is_to_remove members entry then (if is_installed_state entry.state then 2 else 1) else 0

-- the removals and deconfigures that are left at most
abbrev pub removals_left : List Pkg → List Record → ℕ
removals_left members [] = 0
removals_left members (entry ∷ rest) = steps_for members entry + removals_left members rest

-- the names of what isn't configured, in file order
abbrev pub unconfigured_of : List Record → List (List ℕ)
unconfigured_of db = map (λ entry. entry.name) (filter (λ entry. is_unconfigured_state entry.state) db)
