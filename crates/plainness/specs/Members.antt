-- The members of a selection, as a list of numbers has them, and packages in whatever order.
use Rattle.std.specs.Prelude.{◌↔◌, ℕ, List, Option}
use Rattle.std.specs.List.{Contains, filter_map}
use Rattle.std.specs.Option.{option_map}
use Rattle.rules.specs.Package.{Pkg}
use Rattle.rules.specs.Universe.{Universe}
use Rattle.universe_parts.specs.Parts.{numbered}

-- the counting package of the pair of this number, if there is one
abbrev pub pkg_of_number : Universe → ℕ → Option Pkg
pkg_of_number u number = option_map (λ pair. pair.pkg) (numbered number u.pairs)

-- the counting packages of the pairs of these numbers, in their order
abbrev pub numbered_members : Universe → List ℕ → List Pkg
numbered_members u numbers = filter_map (pkg_of_number u) numbers

-- the two lists have the same packages
abbrev pub AreSame : List Pkg → List Pkg → Type 0
AreSame packages others = (pkg : Pkg) → Contains packages pkg ↔ Contains others pkg
