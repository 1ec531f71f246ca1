-- Selections that change no more than they have to (this project's own): no single change brings them nearer
-- to the start. A selection is a test on the numbers of the admitted pairs.
use Rattle.std.specs.Prelude.{◌≡◌, ℕ, zero, suc, Bool, not, List, ◌++◌, ◌⊎◌, ◌&&◌, ◌||◌, ◌==◌, IsTrue, Option, Some, None, MatchOption, slice_get}
use Rattle.std.specs.List.{Any}
use Rattle.std.specs.Option.{option_map}
use Rattle.rules.specs.Package.{Pkg, MatchesSome}
use Rattle.rules.specs.Sound.{IsAcceptable, HasMember, selected}
use Rattle.rules.specs.Universe.{Universe}
use Rattle.rules.specs.Version.{SameVersion}
use Rattle.rules.specs.declared.goal.Goal.{Goal}
use Rattle.rules.specs.declared.goal.Goal.TheVariants as goal

-- the counting package of the pair of this number, counted from 1
abbrev pub pkg_at : Universe → ℕ → Option Pkg
pkg_at u zero = None
pkg_at u (suc place) = option_map (λ pair. pair.pkg) (slice_get u.pairs place)

-- the package is that of the selected pair of this number
unfoldable pub IsSelected : Universe → (ℕ → Bool) → ℕ → Pkg → Type 0
IsSelected u selection number pkg = IsTrue (selection number) × (pkg_at u number ≡ Some pkg)

-- the name was present at the start
unfoldable pub WasPresent : Universe → List ℕ → Type 0
WasPresent u name = Any (λ start. (start.name ≡ name) × IsTrue start.is_present) u.starts

-- the package is the one that stood at the start
unfoldable pub Stood : Universe → Pkg → Type 0
Stood u pkg =
    Any (λ start. (start.name ≡ pkg.name) × MatchOption start.standing ⊥ (SameVersion pkg.version)) u.starts

-- an install or upgrade goal names it
abbrev pub AsksFor : List ℕ → Goal → Type 0
AsksFor name (goal.Install asked restriction) = asked ≡ name
AsksFor name (goal.Remove asked) = ⊥
AsksFor name (goal.Purge asked) = ⊥
AsksFor name (goal.Upgrade asked) = asked ≡ name
AsksFor name goal.UpgradeAll = ⊥
AsksFor name goal.NoRemove = ⊥

-- there is a reason for the package without others: it was present, or a goal names it
unfoldable pub IsWanted : Universe → Pkg → Type 0
IsWanted u pkg = WasPresent u pkg.name ⊎ Any (AsksFor pkg.name) u.goals

-- the second package matches an atom of a Pre-Depends or Depends clause of the first
unfoldable pub Needs : Pkg → Pkg → Type 0
Needs pkg needed = Any (MatchesSome needed) (pkg.relations.pre_depends ++ pkg.relations.depends)

-- a set of numbers that has the wanted members and, with a member, those that it needs
pub record IsClosed (u : Universe) (selection set : ℕ → Bool) : Type 0 where
  pub wanted : (number : ℕ) (pkg : Pkg) → IsSelected u selection number pkg → IsWanted u pkg → IsTrue (set number)
  pub needed : (number other : ℕ) (pkg needed : Pkg) → IsSelected u selection number pkg
      → IsSelected u selection other needed → IsTrue (set number) → Needs pkg needed → IsTrue (set other)

-- each member is reached: it is in every set that has the wanted members and what they need in turn
unfoldable pub IsReached : Universe → (ℕ → Bool) → Type 0
IsReached u selection = (set : ℕ → Bool) → IsClosed u selection set → (number : ℕ) (pkg : Pkg)
    → IsSelected u selection number pkg → IsTrue (set number)

-- the selection without the pair of this number
abbrev pub without_pair : (ℕ → Bool) → ℕ → ℕ → Bool
without_pair selection dropped number = selection number && not (number == dropped)

-- the selection with the pair of this number
abbrev pub with_pair : (ℕ → Bool) → ℕ → ℕ → Bool
with_pair selection added number = selection number || (number == added)

-- locally minimal: each member is reached, and none of these is acceptable: dropping a member whose name
-- wasn't present, putting back the version that stood, adding a version of a present name that has no member
pub record IsLocallyMinimal (u : Universe) (selection : ℕ → Bool) : Type 0 where
  pub reached : IsReached u selection
  pub needed : (number : ℕ) (pkg : Pkg) → IsSelected u selection number pkg → ¬ WasPresent u pkg.name
      → ¬ IsAcceptable u (without_pair selection number)
  pub changed : (number former : ℕ) (pkg stood : Pkg) → IsSelected u selection number pkg → pkg_at u former ≡ Some stood
      → stood.name ≡ pkg.name → Stood u stood → ¬ Stood u pkg
      → ¬ IsAcceptable u (with_pair (without_pair selection number) former)
  pub removed : (number : ℕ) (pkg : Pkg) → pkg_at u number ≡ Some pkg → WasPresent u pkg.name
      → ¬ HasMember pkg.name (selected u selection) → ¬ IsAcceptable u (with_pair selection number)
