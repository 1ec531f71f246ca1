-- How the least group that may be configured is found: from a group that passes, names are looked at from the greatest
-- down, and each is left out where some of the others still pass without it (this project's own).
use Rattle.std.specs.Prelude.{◌≡◌, ◌≢◌, ℕ, ◌<◌, List, ◌⊎◌, length}
use Rattle.std.specs.List.{All, Contains}
use Rattle.std.specs.declared.cmp.Ordering.TheVariants.{Less}
use Rattle.rules.specs.Configure.{GroupPasses}
use Rattle.rules.specs.Database.{Record}
use Rattle.rules.specs.Name.{IsAscending, name_cmp}
use Rattle.plain.specs.Order.{IsLesserGroup}

-- some names pass together
pub record IsPassing (db : List Record) (names : List (List ℕ)) : Type 0 where
  pub some : 0 < length names
  pub passes : GroupPasses db names

-- each name of the other group is of this one, or the other is lesser than no part of this one that has what is kept
abbrev pub IsInOrAbove : List (List ℕ) → List (List ℕ) → List (List ℕ) → Type 0
IsInOrAbove kept group other = All (Contains group) other
    ⊎ ((part : List (List ℕ)) → All (Contains group) part → All (Contains part) kept → ¬ IsLesserGroup other part)

-- on the walk: the group passes, the kept names are the greatest of it and in each part that passes, and the least group
-- is among the parts
pub record IsOnWalk (db : List Record) (kept group : List (List ℕ)) : Type 0 where
  pub passing : IsPassing db group
  pub ascending : IsAscending kept
  pub within : All (Contains group) kept
  pub below : (low : List ℕ) → Contains group low → ¬ Contains kept low → All (λ high. name_cmp low high ≡ Less) kept
  pub whole : (other : List (List ℕ)) → IsPassing db other → All (Contains group) other → All (Contains other) kept
  pub least : (other : List (List ℕ)) → IsPassing db other → IsInOrAbove kept group other

-- the name is the greatest of the group that isn't kept
pub record IsNextName (kept group : List (List ℕ)) (name : List ℕ) : Type 0 where
  pub within : Contains group name
  pub unkept : ¬ Contains kept name
  pub greatest : (other : List ℕ) → Contains group other → ¬ Contains kept other → other ≢ name → name_cmp other name ≡ Less
