-- The fixed order in which a plain change is made (this project's own): unpacks by name, then removals, each with
-- the deconfigures that it needs, then configures of least groups, then purges by name.
use Rattle.std.specs.Prelude.{◌≡◌, ◌↔◌, ℕ, ◌<◌, not, List, [], ◌∷◌, ◌++◌, map, length, is_some}
use Rattle.std.specs.List.{AllPairs, Contains, filter}
use Rattle.std.specs.declared.cmp.Ordering.TheVariants.{Less}
use Rattle.rules.specs.Available.{standing_record}
use Rattle.rules.specs.Database.{Record, HasRecord, IsInstalled}
use Rattle.rules.specs.Legal.{Allowed}
use Rattle.rules.specs.Name.{IsAscending, name_cmp}
use Rattle.rules.specs.Package.{Pkg}
use Rattle.rules.specs.Run.{after}
use Rattle.rules.specs.Universe.{Universe}
use Rattle.rules.specs.declared.step.Step.{Step}
use Rattle.rules.specs.declared.step.Step.TheVariants as step
use Rattle.plain.specs.Change.{HasNothingToRemove, IsToUnpack, IsToRemove, IsToPurge}

-- the database after all these steps
abbrev pub after_all : Universe → List Record → List Step → List Record
after_all u db [] = db
after_all u db (step ∷ rest) = after_all u (after u db step) rest

-- the steps lead from this database to the one reached, and each is a next one in the database before it
abbrev pub AreNextSteps : (List Record → Step → Type 0) → Universe → List Record → List Step → List Record → Type 0
AreNextSteps IsNext u db [] reached = reached ≡ db
AreNextSteps IsNext u db (step ∷ rest) reached = IsNext db step × AreNextSteps IsNext u (after u db step) rest reached

-- Unpacks

-- the step that unpacks the package
abbrev pub unpack_of : Pkg → Step
unpack_of pkg = step.Unpack pkg.name pkg.version

-- just the packages to be unpacked, by name
pub record AreUnpacks (start : List Record) (members pkgs : List Pkg) : Type 0 where
  pub by_name : AllPairs (λ earlier later. name_cmp earlier.name later.name ≡ Less) pkgs
  pub each : (pkg : Pkg) → Contains pkgs pkg ↔ IsToUnpack start members pkg

-- the members to be unpacked, in their order
abbrev pub to_unpack : List Record → List Pkg → List Pkg
to_unpack start members = filter (λ pkg. not (is_some (standing_record start pkg.name pkg.version))) members

-- Removals

-- the name has the property, and no lesser name has it
pub record IsLeastName (P : List ℕ → Type 0) (name : List ℕ) : Type 0 where
  pub has : P name
  pub least : (other : List ℕ) → P other → ¬ (name_cmp other name ≡ Less)

-- the name is to be removed, and that is allowed
abbrev pub MayGo : Universe → List Pkg → List Record → List ℕ → Type 0
MayGo u members db name = IsToRemove members db name × Allowed u db (step.Remove name)

-- the name is to be removed, and installed
abbrev pub IsStillInstalled : List Pkg → List Record → List ℕ → Type 0
IsStillInstalled members db name = IsToRemove members db name × HasRecord IsInstalled name db

-- the step is the next of the removals: that of the least name whose removal is allowed, or where there is none, the
-- deconfigure of the least name to be removed that is installed
abbrev pub IsNextRemoval : Universe → List Pkg → List Record → Step → Type 0
IsNextRemoval u members db (step.Unpack name version) = ⊥
IsNextRemoval u members db (step.Deconfigure name) =
    ((other : List ℕ) → ¬ MayGo u members db other) × IsLeastName (IsStillInstalled members db) name
IsNextRemoval u members db (step.Configure names) = ⊥
IsNextRemoval u members db (step.Remove name) = IsLeastName (MayGo u members db) name
IsNextRemoval u members db (step.Purge name) = ⊥

-- the steps are the removals from this database on, until no name is to be removed
abbrev pub AreRemovals : Universe → List Pkg → List Record → List Step → Type 0
AreRemovals u members db [] = HasNothingToRemove members db
AreRemovals u members db (step ∷ rest) = IsNextRemoval u members db step × AreRemovals u members (after u db step) rest

-- Configures

-- there are names, and they may be configured together
pub record IsConfigurableGroup (u : Universe) (db : List Record) (names : List (List ℕ)) : Type 0 where
  pub some : 0 < length names
  pub allowed : Allowed u db (step.Configure names)

-- the first group is the lesser: the greatest name that only one of the two has is in the second
pub record IsLesserGroup (group other : List (List ℕ)) : Type 0 where
  pub name : List ℕ
  pub within : Contains other name
  pub without : ¬ Contains group name
  pub above : (higher : List ℕ) → name_cmp name higher ≡ Less → Contains group higher ↔ Contains other higher

-- the names, in their order, are the least group that may be configured
pub record IsLeastGroup (u : Universe) (db : List Record) (names : List (List ℕ)) : Type 0 where
  pub ascending : IsAscending names
  pub group : IsConfigurableGroup u db names
  pub least : (other : List (List ℕ)) → IsConfigurableGroup u db other → ¬ IsLesserGroup other names

-- the step is the next of the configures: that of the least group
abbrev pub IsNextConfigure : Universe → List Record → Step → Type 0
IsNextConfigure u db (step.Unpack name version) = ⊥
IsNextConfigure u db (step.Deconfigure name) = ⊥
IsNextConfigure u db (step.Configure names) = IsLeastGroup u db names
IsNextConfigure u db (step.Remove name) = ⊥
IsNextConfigure u db (step.Purge name) = ⊥

-- the steps are the configures from this database on, until no group may be configured
abbrev pub AreConfigures : Universe → List Record → List Step → Type 0
AreConfigures u db [] = (names : List (List ℕ)) → ¬ IsConfigurableGroup u db names
AreConfigures u db (step ∷ rest) = IsNextConfigure u db step × AreConfigures u (after u db step) rest

-- Purges

-- just the names to be purged, in their order
pub record ArePurges (u : Universe) (db : List Record) (names : List (List ℕ)) : Type 0 where
  pub by_name : IsAscending names
  pub each : (name : List ℕ) → Contains names name ↔ IsToPurge u db name

-- The whole

-- the steps are in the fixed order: unpacks, removals, configures and purges, each begun where those before have led
pub record IsInFixedOrder (u : Universe) (start : List Record) (members : List Pkg) (steps : List Step) : Type 0 where
  pub unpacks : List Pkg
  pub removals : List Step
  pub configures : List Step
  pub purges : List (List ℕ)
  pub all_unpacked : List Record
  pub all_removed : List Record
  pub all_configured : List Record
  pub parts : steps ≡ map unpack_of unpacks ++ (removals ++ (configures ++ map step.Purge purges))
  pub unpacks_are : AreUnpacks start members unpacks
  pub all_unpacked_is : all_unpacked ≡ after_all u start (map unpack_of unpacks)
  pub removals_are : AreRemovals u members all_unpacked removals
  pub all_removed_is : all_removed ≡ after_all u all_unpacked removals
  pub configures_are : AreConfigures u all_removed configures
  pub all_configured_is : all_configured ≡ after_all u all_removed configures
  pub purges_are : ArePurges u all_configured purges
