-- Which names are package names, and lists of just the names with a property (Policy 5.6.1).
use Rattle.std.specs.Prelude.{◌↔◌, ℕ, List, IsTrue}
use Rattle.std.specs.List.{All, Contains}
use Rattle.rules.specs.Name.{IsAscending, is_name}
use Rattle.rules.specs.Package.{Pkg}

-- the name of each package is a package name
abbrev pub AreNamed : List Pkg → Type 0
AreNamed pkgs = All (λ pkg. IsTrue (is_name pkg.name)) pkgs

-- just the names with the property, in their order
pub record AreAllWith (P : List ℕ → Type 0) (names : List (List ℕ)) : Type 0 where
  pub ascending : IsAscending names
  pub each : (name : List ℕ) → Contains names name ↔ P name
