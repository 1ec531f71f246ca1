-- The steps that lead to a selection (this project's own; the actions are those of dpkg(1)).
use Rattle.std.specs.Prelude.{◌≡◌, ℕ, ◌<◌, List, length, IsTrue}
use Rattle.std.specs.List.{All, Any}
use Rattle.rules.specs.Database.{Record, HasRecord}
use Rattle.rules.specs.Legal.{Allowed}
use Rattle.rules.specs.Name.{is_name}
use Rattle.rules.specs.Package.{Pkg}
use Rattle.rules.specs.Sound.{HasMember, HasVersion}
use Rattle.rules.specs.Universe.{Universe}
use Rattle.rules.specs.declared.goal.Goal.TheVariants as goal
use Rattle.rules.specs.declared.step.Step.{Step}
use Rattle.rules.specs.declared.step.Step.TheVariants as step

-- the record of the name is of a selected version
unfoldable pub IsOfSelected : List Pkg → List Record → List ℕ → Type 0
IsOfSelected selected db name =
    IsTrue (is_name name) × HasRecord (λ entry. HasVersion name entry.version selected) name db

-- a step that leads to the selection: it unpacks a selected package, configures a group of names whose versions are
-- selected, removes a name that isn't selected, or purges a name that is to be purged
abbrev pub IsForward : Universe → List Pkg → List Record → Step → Type 0
IsForward u selected db (step.Unpack name version) =
    IsTrue (is_name name) × Any (λ pkg. (pkg.name ≡ name) × (pkg.version ≡ version)) selected
IsForward u selected db (step.Deconfigure name) = ⊥
IsForward u selected db (step.Configure names) = (0 < length names) × All (IsOfSelected selected db) names
IsForward u selected db (step.Remove name) = IsTrue (is_name name) × ¬ HasMember name selected
IsForward u selected db (step.Purge name) = Any (λ asked. asked ≡ goal.Purge name) u.goals

-- no step that leads to the selection is allowed
unfoldable pub IsAtRest : Universe → List Pkg → List Record → Type 0
IsAtRest u selected db = (step : Step) → IsForward u selected db step → ¬ Allowed u db step
