-- Which packages a literal is sought for.
use Rattle.std.specs.Prelude.{◌≡◌, ℕ, ◌+◌, Bool, true, false, List, Some, slice_get}
use Rattle.rules.specs.Package.{Meets, Pkg}
use Rattle.rules.specs.Universe.{IsOf}
use Rattle.rules.specs.declared.goal.Goal.{Goal}
use Rattle.rules.specs.declared.goal.Goal.TheVariants as goal
use Rattle.refutation.specs.declared.literal.Literal.{Literal}
use Rattle.refutation.specs.declared.literal.Literal.TheVariants as literal
use Rattle.refutecheck.specs.declared.sought.Sought.{Sought}
use Rattle.refutecheck.specs.declared.sought.Sought.TheVariants as sought

-- the package is one that is sought: of the name, in a version that meets the restriction, or in this version
abbrev pub IsSought : Sought → Pkg → Type 0
IsSought (sought.OfName name) pkg = pkg.name ≡ name.now
IsSought (sought.Meeting name restriction) pkg = (pkg.name ≡ name.now) × Meets pkg.version restriction.now
IsSought (sought.InVersion name version) pkg = IsOf name.now version.now pkg

-- the literal says that the pair at this place is selected, and its package has the property
abbrev pub IsSelectedAt : List Pkg → (Pkg → Type 0) → ℕ → Literal → Type 0
IsSelectedAt packages P place disjunct =
    (disjunct ≡ literal.Selected (place + 1)) × ((pkg : Pkg) × (slice_get packages place ≡ Some pkg) × P pkg)

-- the goal is that nothing is removed, as a test
abbrev pub is_no_remove : Goal → Bool
is_no_remove (goal.Install name restriction) = false
is_no_remove (goal.Remove name) = false
is_no_remove (goal.Purge name) = false
is_no_remove (goal.Upgrade name) = false
is_no_remove goal.UpgradeAll = false
is_no_remove goal.NoRemove = true
