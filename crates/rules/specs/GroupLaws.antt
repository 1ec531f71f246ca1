-- What follows for groups from what they need to be configured together.
use Rattle.std.specs.Prelude.{◌≡◌, ℕ, List, [], ◌++◌, ◌↔◌}
use Rattle.std.specs.List.{All}
use Rattle.rules.specs.Configure.{GroupPasses, IsGreatestPart, IsIndivisible, others_of}
use Rattle.rules.specs.Database.{Record}

-- two groups that pass the tests pass them together
abbrev pub UnionPasses : Type 0
UnionPasses = (db : List Record) (names others : List (List ℕ)) → GroupPasses db names → GroupPasses db others
    → GroupPasses db (names ++ others)

-- each group has a greatest part that passes
abbrev pub HasGreatestPart : Type 0
HasGreatestPart = (db : List Record) (names : List (List ℕ)) → (part : List (List ℕ)) × IsGreatestPart db names part

-- no proper part of a group passes by itself exactly where, for each member, the greatest passing part of the
-- others is empty
abbrev pub IndivisibleByOthers : Type 0
IndivisibleByOthers = (db : List Record) (names : List (List ℕ)) → IsIndivisible db names
    ↔ All (λ name. (part : List (List ℕ)) → IsGreatestPart db (others_of name names) part → part ≡ []) names
