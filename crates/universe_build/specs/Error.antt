-- When a universe is built, and which refusal comes first (this project's own).
use Rattle.std.specs.Prelude.{◌≡◌, ℕ, Bool, ◌<◌, ◌≤◌, List, length, ⊤, Some, None}
use Rattle.pins.specs.Prefs.{Preferences}
use Rattle.rules.specs.Available.{Index, Request, all_listed}
use Rattle.rules.specs.Database.{Record}
use Rattle.rules.specs.Universe.{IsUniverse, Universe}
use Rattle.rules.specs.declared.goal.GoalLine.{GoalLine}
use Rattle.universe_build.specs.Build.{first_unknown, inputs_of, request_of}
use Rattle.universe_build.specs.declared.error.UniverseError.{UniverseError}
use Rattle.universe_build.specs.declared.error.UniverseError.TheVariants.{UnknownName, TooLarge, OutOfMemory}

-- the greatest number of admitted pairs
abbrev pub most_pairs : ℕ
most_pairs = 1000000

-- it is the universe of the goals, for all versions or not, over the start and the indices by the preferences: no goal names an unknown package, and the pairs aren't too many
pub record IsBuilt (start : List Record) (indices : List Index) (prefs : Preferences) (lines : List GoalLine) (all : Bool) (u : Universe) : Type 0 where
  pub known : first_unknown start (all_listed indices) lines ≡ None
  pub universe : IsUniverse (inputs_of start indices prefs (request_of lines all)) u
  pub bounded : length u.pairs ≤ most_pairs

-- the universe of the request over the start and the indices by the preferences has too many pairs
pub record IsTooLarge (start : List Record) (indices : List Index) (prefs : Preferences) (request : Request) : Type 0 where
  pub u : Universe
  pub universe : IsUniverse (inputs_of start indices prefs request) u
  pub beyond : most_pairs < length u.pairs

-- the error is the first refusal, of an unknown name before that of too many pairs, or want of memory
abbrev pub IsUniverseFault : List Record → List Index → Preferences → List GoalLine → Bool → UniverseError → Type 0
IsUniverseFault start indices prefs lines all (UnknownName line) = first_unknown start (all_listed indices) lines ≡ Some line
IsUniverseFault start indices prefs lines all TooLarge = (first_unknown start (all_listed indices) lines ≡ None) × IsTooLarge start indices prefs (request_of lines all)
IsUniverseFault start indices prefs lines all OutOfMemory = ⊤
