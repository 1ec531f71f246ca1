-- What follows for the walk to the least group: each of its steps, and that there is a least group.
use Rattle.std.specs.Prelude.{ℕ, ◌<◌, List, [], ◌∷◌, length}
use Rattle.std.specs.List.{All, Contains}
use Rattle.rules.specs.Configure.{GroupPasses, IsGreatestPart, others_of}
use Rattle.rules.specs.Database.{Record}
use Rattle.rules.specs.Universe.{Universe}
use Rattle.plain.specs.Order.{IsConfigurableGroup, IsLeastGroup}
use Rattle.plain.specs.Underway.{unconfigured_of}
use Rattle.plain.specs.Walk.{IsNextName, IsOnWalk}

-- where some group passes but for the rule of its parts, there is a least group that may be configured
abbrev pub LeastGroupIsThere : Type 0
LeastGroupIsThere = (u : Universe) (db : List Record) (names : List (List ℕ)) → 0 < length names → GroupPasses db names
    → (group : List (List ℕ)) × IsLeastGroup u db group

-- the walk begins with the greatest part of what isn't configured, if it is something
abbrev pub WalkBegins : Type 0
WalkBegins = (db : List Record) (group : List (List ℕ)) → IsGreatestPart db (unconfigured_of db) group → 0 < length group
    → IsOnWalk db [] group

-- where that part is nothing, no group may be configured
abbrev pub NoGroupIsLeft : Type 0
NoGroupIsLeft = (u : Universe) (db : List Record) → IsGreatestPart db (unconfigured_of db) []
    → (names : List (List ℕ)) → ¬ IsConfigurableGroup u db names

-- where some of the others pass without the next name, it is left out: the walk goes on with the greatest part of those
abbrev pub WalkLeavesOut : Type 0
WalkLeavesOut = (db : List Record) (kept group part : List (List ℕ)) (name : List ℕ) → IsOnWalk db kept group
    → IsNextName kept group name → IsGreatestPart db (others_of name group) part → 0 < length part → IsOnWalk db kept part

-- where none of the others pass without the next name, it is kept
abbrev pub WalkKeeps : Type 0
WalkKeeps = (db : List Record) (kept group : List (List ℕ)) (name : List ℕ) → IsOnWalk db kept group
    → IsNextName kept group name → IsGreatestPart db (others_of name group) [] → IsOnWalk db (name ∷ kept) group

-- where all names are kept, they are the least group
abbrev pub WalkEnds : Type 0
WalkEnds = (u : Universe) (db : List Record) (kept group : List (List ℕ)) → IsOnWalk db kept group
    → All (Contains kept) group → IsLeastGroup u db kept
