-- Every package that is sought has the name.
use Rattle.std.proofs.Common.{◌≡◌, List, refl}
use Rattle.std.specs.Prelude.{ℕ}
use Rattle.rules.specs.Package.{FitsByName, Matches, Pkg}
use Rattle.index.specs.Providers.{plain_atom}
use mathlib.Core.Logic.{inl}

-- a package of the name matches it without a restriction
pub of_name : (pkg : Pkg) (name : List ℕ) → pkg.name ≡ name → Matches pkg (plain_atom name)
unfolding Matches FitsByName
of_name pkg name is = (refl, inl (is, tt))
