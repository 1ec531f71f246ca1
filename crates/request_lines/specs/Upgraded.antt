-- The names of which `upgrade-all` asks for another version: as `IsUpgraded` says it of each fact of the start.
use Rattle.std.specs.Prelude.{ℕ, Bool, false, not, ◌&&◌, List, map, Option, Some, None}
use Rattle.std.specs.List.{filter}
use Rattle.std.specs.Ordering.{is_lt}
use Rattle.rules.specs.Universe.{Start, Universe, candidate_of}
use Rattle.rules.specs.Version.{version_cmp}

-- both are there, and the first is below the second
abbrev pub is_below : Option (List ℕ) → Option (List ℕ) → Bool
is_below None candidate = false
is_below (Some standing) None = false
is_below (Some standing) (Some candidate) = is_lt (version_cmp standing candidate)

-- the name isn't held, and stands below its candidate
abbrev pub is_to_upgrade : Universe → Start → Bool
is_to_upgrade u start = not start.is_held && is_below start.standing (candidate_of u start.name)

-- the names that are so, in the order of the status file
abbrev pub names_to_upgrade : Universe → List (List ℕ)
names_to_upgrade u = map (λ start. start.name) (filter (is_to_upgrade u) u.starts)
