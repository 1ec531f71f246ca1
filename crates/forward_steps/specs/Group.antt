-- The groups that an order configures (Policy 7.2 and 7.3).
use Rattle.std.specs.Prelude.{◌≡◌, ◌≢◌, ℕ, ◌<◌, ◌↔◌, List, [], length}
use Rattle.std.specs.List.{All, Contains}
use Rattle.rules.specs.Configure.{GroupPasses, IsIndivisible}
use Rattle.rules.specs.Database.{Record}
use Rattle.rules.specs.Name.{IsAscending}

-- the names but for this one
abbrev pub AreOthersOf : List (List ℕ) → List ℕ → List (List ℕ) → Type 0
AreOthersOf names name others = (other : List ℕ) → Contains others other ↔ (Contains names other × (other ≢ name))

-- no part of the group without this name passes the tests of a configuring together
unfoldable pub NonePassesWithout : List Record → List (List ℕ) → List ℕ → Type 0
NonePassesWithout db group name = (part : List (List ℕ)) → All (Contains group) part → ¬ Contains part name
    → GroupPasses db part → part ≡ []

-- the group narrowed by the name: a part of it that passes too, without the name if one does
pub record IsNarrowed (db : List Record) (name : List ℕ) (group part : List (List ℕ)) : Type 0 where
  pub within : All (Contains group) part
  pub some : 0 < length part
  pub passes : GroupPasses db part
  pub settled : Contains part name → NonePassesWithout db part name

-- a group of these names that passes, and is settled by each of those names
pub record IsNarrowedBy (db : List Record) (names by group : List (List ℕ)) : Type 0 where
  pub within : All (Contains names) group
  pub some : 0 < length group
  pub passes : GroupPasses db group
  pub settled : All (λ name. Contains group name → NonePassesWithout db group name) by

-- the same names, each before the next
pub record IsInOrder (names ordered : List (List ℕ)) : Type 0 where
  pub ascending : IsAscending ordered
  pub drawn : All (Contains names) ordered
  pub covered : All (Contains ordered) names

-- a group of these names that can be configured together, and no part of which can
pub record IsGroupOf (db : List Record) (names group : List (List ℕ)) : Type 0 where
  pub within : All (Contains names) group
  pub some : 0 < length group
  pub passes : GroupPasses db group
  pub indivisible : IsIndivisible db group
