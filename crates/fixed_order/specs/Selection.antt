-- The selected pairs, and those of them that are to be unpacked.
use Rattle.std.specs.Prelude.{ℕ, Bool, false, not, List, Option, map, is_some, slice_index_or}
use Rattle.std.specs.Borrow.{Bor}
use Rattle.rules.specs.Available.{standing_record}
use Rattle.rules.specs.Database.{Record}
use Rattle.rules.specs.Package.{Pkg}
use Rattle.rules.specs.Step.{IndexPackage}
use Rattle.rules.specs.Universe.{Pair, Universe, listed_of}

-- whether the marks, which say of each number from 0 on whether it is selected, say so of the number
abbrev pub marked : List Bool → ℕ → Bool
marked marks number = slice_index_or marks number false

-- the counting packages of lent pairs
abbrev pub pkgs_of : List (Bor Pair) → List Pkg
pkgs_of pairs = map (λ pair. pair.now.pkg) pairs

-- the package doesn't stand, as a test
abbrev pub is_away : List Record → Pkg → Bool
is_away start pkg = not (is_some (standing_record start pkg.name pkg.version))

-- the stanza of the package in the indices, if its pair is in one
abbrev pub stanza_of : Universe → Pkg → Option IndexPackage
stanza_of u pkg = listed_of u pkg.name pkg.version
