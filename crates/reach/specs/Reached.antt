-- What has to be reached of a list of packages.
use Rattle.std.specs.Prelude.{◌≡◌, ℕ, Bool, true, List, Option, Some, None, slice_get}
use Rattle.rules.specs.Minimal.{IsWanted, Needs}
use Rattle.rules.specs.Package.{Pkg}
use Rattle.rules.specs.Universe.{Universe}
use Rattle.rules.specs.declared.goal.Goal.{Goal}
use Rattle.rules.specs.declared.goal.Goal.TheVariants as goal
use Rattle.universe_parts.specs.Parts.{packages_of}
use Rattle.reach.specs.Marks.{has}

-- the place of each package with the property is marked
pub record HasAll (packages : List Pkg) (marks : List Bool) (Is : Pkg → Type 0) : Type 0 where
  pub each : (place : ℕ) (pkg : Pkg) → slice_get packages place ≡ Some pkg → Is pkg → has marks place ≡ true

-- each package that the one at this place needs is marked
pub record HasNeeds (packages : List Pkg) (marks : List Bool) (place : ℕ) : Type 0 where
  pub each : (pkg : Pkg) → slice_get packages place ≡ Some pkg → HasAll packages marks (Needs pkg)

-- of the pairs of a universe those are marked that are wanted, and with one those that it needs
pub record HasReached (u : Universe) (marks : List Bool) : Type 0 where
  pub wanted : HasAll (packages_of u.pairs) marks (IsWanted u)
  pub needed : (place : ℕ) → has marks place ≡ true → HasNeeds (packages_of u.pairs) marks place

-- the name that an install or upgrade goal asks for
abbrev pub asked_by : Goal → Option (List ℕ)
asked_by (goal.Install asked restriction) = Some asked
asked_by (goal.Remove asked) = None
asked_by (goal.Purge asked) = None
asked_by (goal.Upgrade asked) = Some asked
asked_by goal.UpgradeAll = None
asked_by goal.NoRemove = None
