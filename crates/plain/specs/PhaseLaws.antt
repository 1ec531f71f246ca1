-- What follows for the four phases of the fixed order: their steps are allowed, they keep the change underway, and
-- they come to an end.
use Rattle.std.specs.Prelude.{◌≢◌, ◌≡◌, ◌↔◌, ℕ, ◌<◌, Bool, List, [], ◌∷◌, ◌++◌, map, length, ◌⊎◌}
use Rattle.std.specs.List.{All, Contains}
use Rattle.rules.specs.Configure.{GroupPasses}
use Rattle.rules.specs.Database.{Record, HasRecord, HasDistinctNames, IsInstalled, installed_of, pkg_of}
use Rattle.rules.specs.Legal.{Allowed}
use Rattle.rules.specs.Package.{Pkg}
use Rattle.rules.specs.Run.{Run, IsGoodEnd, after}
use Rattle.rules.specs.Sound.{HasMember, selected}
use Rattle.rules.specs.Universe.{Universe}
use Rattle.rules.specs.declared.step.Step.{Step}
use Rattle.rules.specs.declared.step.Step.TheVariants as step
use Rattle.plain.specs.Change.{HasNothingToRemove, IsPlainChange, IsToRemove, Stays}
use Rattle.plain.specs.Order.{AreConfigures, AreNextSteps, AreRemovals, IsNextConfigure, after_all, unpack_of, AreUnpacks, to_unpack, MayGo, IsStillInstalled, IsNextRemoval, IsConfigurableGroup, ArePurges}
use Rattle.plain.specs.Underway.{IsUnderway, removals_left, unconfigured_of}

-- Unpacks

-- the members to be unpacked, in the order of their pairs, are just those, by name
abbrev pub MembersAreByName : Type 0
MembersAreByName = (u : Universe) (start : List Record) (selection : ℕ → Bool) → IsPlainChange u start selection
    → AreUnpacks start (selected u selection) (to_unpack start (selected u selection))

-- the unpacks are a run, behind which the change is underway, and each installed package of a member's name stays
pub record AreUnpacked (u : Universe) (start : List Record) (members pkgs : List Pkg) (db : List Record) : Type 0 where
  pub run : Run u start (map unpack_of pkgs) db
  pub underway : IsUnderway u start members db
  pub staying : All (λ entry. IsInstalled entry → HasMember entry.name members
      → Contains members (pkg_of entry) × Stays start (pkg_of entry)) db

-- in a plain change the unpacks by name are allowed, each behind those before it
abbrev pub UnpacksAreAllowed : Type 0
UnpacksAreAllowed = (u : Universe) (start : List Record) (selection : ℕ → Bool) (pkgs : List Pkg)
    → IsPlainChange u start selection → AreUnpacks start (selected u selection) pkgs
    → AreUnpacked u start (selected u selection) pkgs (after_all u start (map unpack_of pkgs))

-- Removals

-- a name to be removed may go where no other one is installed
abbrev pub LastRemovalIsAllowed : Type 0
LastRemovalIsAllowed = (u : Universe) (start db : List Record) (selection : ℕ → Bool) (name : List ℕ)
    → IsPlainChange u start selection → IsUnderway u start (selected u selection) db
    → IsToRemove (selected u selection) db name
    → ((other : List ℕ) → IsStillInstalled (selected u selection) db other → other ≡ name)
    → Allowed u db (step.Remove name)

-- while a name is to be removed, one may go or one is installed, which may be deconfigured
abbrev pub RemovalsGoOn : Type 0
RemovalsGoOn = (u : Universe) (start db : List Record) (selection : ℕ → Bool) (name : List ℕ)
    → IsPlainChange u start selection → IsUnderway u start (selected u selection) db
    → IsToRemove (selected u selection) db name
    → ((other : List ℕ) × MayGo u (selected u selection) db other)
    ⊎ ((other : List ℕ) × IsStillInstalled (selected u selection) db other)

-- the next of the removals is allowed, the change stays underway, and fewer steps are left
abbrev pub RemovalsAreAllowed : Type 0
RemovalsAreAllowed = (u : Universe) (start db : List Record) (members : List Pkg) (step : Step)
    → IsUnderway u start members db → IsNextRemoval u members db step
    → Allowed u db step × IsUnderway u start members (after u db step)
    × (removals_left members (after u db step) < removals_left members db)

-- removals so far, with the next one, are removals so far
abbrev pub RemovalsGrow : Type 0
RemovalsGrow = (u : Universe) (members : List Pkg) (db reached : List Record) (steps : List Step) (step : Step)
    → AreNextSteps (IsNextRemoval u members) u db steps reached → IsNextRemoval u members reached step
    → AreNextSteps (IsNextRemoval u members) u db (steps ++ step ∷ []) (after u reached step)

-- removals so far are the removals where nothing more is to be removed
abbrev pub RemovalsEnd : Type 0
RemovalsEnd = (u : Universe) (members : List Pkg) (db reached : List Record) (steps : List Step)
    → AreNextSteps (IsNextRemoval u members) u db steps reached → HasNothingToRemove members reached
    → AreRemovals u members db steps × (reached ≡ after_all u db steps)

-- behind a removal the other names are still to be removed
abbrev pub RemovalLeaves : Type 0
RemovalLeaves = (u : Universe) (members : List Pkg) (db : List Record) (name other : List ℕ)
    → IsToRemove members (after u db (step.Remove name)) other ↔ (IsToRemove members db other × (other ≢ name))

-- behind a deconfigure all names are still to be removed, and of those that were installed all but one are so still
abbrev pub DeconfigureLeaves : Type 0
DeconfigureLeaves = (u : Universe) (members : List Pkg) (db : List Record) (name other : List ℕ)
    → HasDistinctNames db → HasRecord IsInstalled name db
    → (IsToRemove members (after u db (step.Deconfigure name)) other ↔ IsToRemove members db other)
    × (IsStillInstalled members (after u db (step.Deconfigure name)) other
    ↔ (IsStillInstalled members db other × (other ≢ name)))

-- Configures

-- where nothing is to be removed, all that isn't configured passes as a group, but for the rule of a group's parts
abbrev pub UnconfiguredPass : Type 0
UnconfiguredPass = (u : Universe) (start db : List Record) (selection : ℕ → Bool) → IsPlainChange u start selection
    → IsUnderway u start (selected u selection) db → HasNothingToRemove (selected u selection) db
    → GroupPasses db (unconfigured_of db)

-- a configure that is allowed keeps the change underway and leaves nothing to be removed
abbrev pub ConfiguresKeep : Type 0
ConfiguresKeep = (u : Universe) (start db : List Record) (members : List Pkg) (names : List (List ℕ))
    → IsUnderway u start members db → HasNothingToRemove members db
    → Allowed u db (step.Configure names)
    → IsUnderway u start members (after u db (step.Configure names))
    × HasNothingToRemove members (after u db (step.Configure names))

-- behind a configure that is allowed the other names aren't configured yet, and those are fewer
abbrev pub ConfigureLeaves : Type 0
ConfigureLeaves = (u : Universe) (db : List Record) (names : List (List ℕ)) → HasDistinctNames db
    → Allowed u db (step.Configure names)
    → ((name : List ℕ) → Contains (unconfigured_of (after u db (step.Configure names))) name
    ↔ (Contains (unconfigured_of db) name × ¬ Contains names name))
    × (0 < length names → length (unconfigured_of (after u db (step.Configure names))) < length (unconfigured_of db))

-- configures so far, with the next one, are configures so far
abbrev pub ConfiguresGrow : Type 0
ConfiguresGrow = (u : Universe) (db reached : List Record) (steps : List Step) (step : Step)
    → AreNextSteps (IsNextConfigure u) u db steps reached → IsNextConfigure u reached step
    → AreNextSteps (IsNextConfigure u) u db (steps ++ step ∷ []) (after u reached step)

-- configures so far are the configures where no group may be configured
abbrev pub ConfiguresEnd : Type 0
ConfiguresEnd = (u : Universe) (db reached : List Record) (steps : List Step)
    → AreNextSteps (IsNextConfigure u) u db steps reached → ((names : List (List ℕ)) → ¬ IsConfigurableGroup u reached names)
    → AreConfigures u db steps × (reached ≡ after_all u db steps)

-- Purges and the end

-- the installed packages are just the members
unfoldable pub HasJust : List Pkg → List Record → Type 0
HasJust members db = (pkg : Pkg) → Contains (installed_of db) pkg ↔ Contains members pkg

-- a run to a good end at which just the members are installed
pub record EndsWell (u : Universe) (db : List Record) (members : List Pkg) (steps : List Step) (finish : List Record) : Type 0 where
  pub run : Run u db steps finish
  pub good : IsGoodEnd u finish
  pub installed : HasJust members finish

-- where nothing is to be removed and no group may be configured, the purges by name are allowed and the end is good
abbrev pub PurgesEndWell : Type 0
PurgesEndWell = (u : Universe) (start db : List Record) (selection : ℕ → Bool) (names : List (List ℕ))
    → IsPlainChange u start selection → IsUnderway u start (selected u selection) db
    → HasNothingToRemove (selected u selection) db
    → ((group : List (List ℕ)) → ¬ IsConfigurableGroup u db group) → ArePurges u db names
    → EndsWell u db (selected u selection) (map step.Purge names) (after_all u db (map step.Purge names))
