-- The names of the packages of an index.
use Rattle.std.specs.Prelude.{ℕ, List, [], ◌∷◌, ◌++◌, map, bytes_eq, fold, if◌then◌else◌}
use Rattle.std.specs.List.{list_any}
use Rattle.rules.specs.Step.{IndexPackage}

-- the names, with one more behind them unless it is there
abbrev pub with_name : List (List ℕ) → List ℕ → List (List ℕ)
with_name names name = if list_any (bytes_eq name) names then names else names ++ name ∷ []

-- the distinct names of the packages, in the order in which each comes first
abbrev pub names_of : List IndexPackage → List (List ℕ)
names_of listed = fold with_name [] (map (λ item. item.pkg.name) listed)
