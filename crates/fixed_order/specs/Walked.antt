-- How far the walk to the least group has come (this project's own).
use Rattle.std.specs.Prelude.{◌≡◌, ℕ, ◌<◌, List, [], length, ◌⊎◌}
use Rattle.std.specs.List.{AllPairs, Contains}
use Rattle.std.specs.declared.cmp.Ordering.TheVariants.{Less}
use Rattle.rules.specs.Configure.{IsGreatestPart}
use Rattle.rules.specs.Database.{Record}
use Rattle.rules.specs.Name.{name_cmp}
use Rattle.plain.specs.Underway.{unconfigured_of}
use Rattle.plain.specs.Walk.{IsOnWalk}

-- the walk can begin with the group, or it is nothing, and then no group passes
pub record IsBeginning (db : List Record) (group : List (List ℕ)) : Type 0 where
  pub begins : 0 < length group → IsOnWalk db [] group
  pub none : group ≡ [] → IsGreatestPart db (unconfigured_of db) []

-- each of these names, from the greatest down
pub record IsFalling (names down : List (List ℕ)) : Type 0 where
  pub falls : AllPairs (λ earlier later. name_cmp later earlier ≡ Less) down
  pub all : (name : List ℕ) → Contains names name → Contains down name

-- on the walk, with these names left to be looked at: they fall, each name of the group is kept or left, and what is left is
-- below what is kept
pub record IsWalkedTo (db : List Record) (left kept group : List (List ℕ)) : Type 0 where
  pub walk : IsOnWalk db kept group
  pub falls : AllPairs (λ earlier later. name_cmp later earlier ≡ Less) left
  pub known : (name : List ℕ) → Contains group name → Contains kept name ⊎ Contains left name
  pub above : (high low : List ℕ) → Contains kept high → Contains left low → name_cmp low high ≡ Less
