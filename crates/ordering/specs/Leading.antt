-- The steps that lead to a selection, whatever they name and however they spell a version (this project's own; the actions are
-- those of dpkg(1)).
use Rattle.std.specs.Prelude.{◌≡◌, ℕ, ◌<◌, List, length}
use Rattle.std.specs.List.{All, Any}
use Rattle.rules.specs.Database.{Record, HasRecord}
use Rattle.rules.specs.Legal.{Allowed}
use Rattle.rules.specs.Package.{Pkg}
use Rattle.rules.specs.Sound.{HasMember, HasVersion}
use Rattle.rules.specs.Universe.{Universe}
use Rattle.rules.specs.declared.goal.Goal.TheVariants as goal
use Rattle.rules.specs.declared.step.Step.{Step}
use Rattle.rules.specs.declared.step.Step.TheVariants as step

-- the record of the name is of a selected version
unfoldable pub IsSelectedIn : List Pkg → List Record → List ℕ → Type 0
IsSelectedIn selected db name = HasRecord (λ entry. HasVersion name entry.version selected) name db

-- a step that leads to the selection: it unpacks a selected version, configures a group of names whose versions are
-- selected, removes a name that isn't selected, or purges a name that is to be purged
abbrev pub LeadsOn : Universe → List Pkg → List Record → Step → Type 0
LeadsOn u selected db (step.Unpack name version) = HasVersion name version selected
LeadsOn u selected db (step.Deconfigure name) = ⊥
LeadsOn u selected db (step.Configure names) = (0 < length names) × All (IsSelectedIn selected db) names
LeadsOn u selected db (step.Remove name) = ¬ HasMember name selected
LeadsOn u selected db (step.Purge name) = Any (λ asked. asked ≡ goal.Purge name) u.goals

-- no step that leads to the selection is allowed
abbrev pub NothingLeadsOn : Universe → List Pkg → List Record → Type 0
NothingLeadsOn u selected db = (step : Step) → LeadsOn u selected db step → ¬ Allowed u db step
