-- The first goal of a request that an end doesn't fulfil.
use Rattle.std.specs.Prelude.{◌≤◌, ℕ, List}
use Rattle.rules.specs.Database.{Record, installed_of}
use Rattle.rules.specs.Run.{IsPurged, IsUnfulfilled}
use Rattle.rules.specs.Sound.{Fulfils}
use Rattle.rules.specs.Universe.{Universe}
use Rattle.rules.specs.declared.goal.Goal.{Goal}

-- the installed packages fulfil the goal, and a name that is to be purged is gone
abbrev pub IsFulfilled : Universe → List Record → Goal → Type 0
IsFulfilled u db asked = Fulfils u (installed_of db) asked × IsPurged db asked

-- the goal of this number isn't fulfilled, and it is the least such number
abbrev pub IsFirstUnfulfilled : Universe → List Record → ℕ → Type 0
IsFirstUnfulfilled u db number =
    IsUnfulfilled u db number × ((other : ℕ) → IsUnfulfilled u db other → number ≤ other)
