-- The clauses that are settled by, each with its role, and where each literal occurs.
use Rattle.std.specs.Prelude.{◌≡◌, ℕ, ◌+◌, ◌*◌, Bool, false, List, [], length, ℤ, Option, Some, None, slice_get, slice_index_or, if◌then◌else◌, ◌==◌}
use Rattle.std.specs.List.{Contains}
use Rattle.std.specs.Option.{option_and_then, option_map_or}
use Rattle.refutation.specs.declared.line.Premise.{Premise}
use Rattle.refutation.specs.declared.line.Premise.TheVariants as premise
use Rattle.search_settle.specs.declared.role.Role.{Role}
use Rattle.search_settle.specs.declared.role.Role.TheVariants as role
use Rattle.search_settle.specs.Occurrences.{ListsFirst}

-- roles and clauses over numbers up to the greatest, and for each literal the places of the clauses with it
pub record Given : Type 0 where
  pub roles : List Role
  pub clauses : List (List ℤ)
  pub numbers : ℕ
  pub lists : List (List ℕ)

-- each literal of the numbers has its list
pub record IsIndexed (given : Given) : Type 0 where
  pub lists : ListsFirst given.lists given.clauses (length given.clauses)
  pub long : length given.lists ≡ 2 * given.numbers + 2

-- the clause at a place
abbrev pub clause_at : Given → ℕ → List ℤ
clause_at given place = slice_index_or given.clauses place []

-- the places of the clauses with the literal that the number isn't selected
abbrev pub places_without : Given → ℕ → List ℕ
places_without given number = slice_index_or given.lists (2 * number + 1) []

-- the role of the clause of a premise
abbrev pub role_of : Premise → Role
role_of (premise.Same pair other) = role.Same pair other
role_of (premise.PreDepends pair clause) = role.Need pair
role_of (premise.Depends pair clause) = role.Need pair
role_of (premise.Conflicts pair other) = role.Other
role_of (premise.Breaks pair other) = role.Other
role_of (premise.Goal asked) = role.Other
role_of (premise.GoalOn asked pair) = role.Other
role_of (premise.Hold pair) = role.Other
role_of (premise.Essential name) = role.Other
role_of (premise.Keep name) = role.Other

-- the other of two pairs of one name, if the clause is of such two and the number is one of them
abbrev pub sibling_of : ℕ → Role → Option ℕ
sibling_of number (role.Same pair other) =
    if pair == number then Some other else (if other == number then Some pair else None)
sibling_of number (role.Need pair) = None
sibling_of number role.Other = None

-- whether the clause says what the pair of this number needs
abbrev pub is_need_of : ℕ → Role → Bool
is_need_of number (role.Same pair other) = false
is_need_of number (role.Need pair) = pair == number
is_need_of number role.Other = false

-- the sibling of the number by the clause at a place
abbrev pub sibling_at : Given → ℕ → ℕ → Option ℕ
sibling_at given number place = option_and_then (sibling_of number) (slice_get given.roles place)

-- whether the clause at a place says what the number needs
abbrev pub is_need_at : Given → ℕ → ℕ → Bool
is_need_at given number place = option_map_or (is_need_of number) (slice_get given.roles place) false

-- the second number is a sibling of the first: a clause without the first is of two pairs of one name
pub record AreSiblings (given : Given) (number other : ℕ) : Type 0 where
  pub place : ℕ
  pub listed : Contains (places_without given number) place
  pub sibling : sibling_at given number place ≡ Some other

-- whether the sibling by the clause at a place, if there is one, is selected
abbrev pub is_sibling_selected : Given → (ℕ → Bool) → ℕ → ℕ → Bool
is_sibling_selected given selection number place = option_map_or selection (sibling_at given number place) false
