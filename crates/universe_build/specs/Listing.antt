-- What is admitted where no goal asks for a version, and the goals that it is lent to (this project's own).
use Rattle.std.specs.Prelude.{Bool, true, List, []}
use Rattle.std.specs.List.{list_all, list_any}
use Rattle.std.specs.Option.{option_map_or}
use Rattle.pins.specs.Prefs.{Preferences}
use Rattle.rules.specs.Available.{Index, is_of}
use Rattle.rules.specs.Database.{Record}
use Rattle.rules.specs.Universe.{IsUniverse, Pair}
use Rattle.rules.specs.declared.goal.Goal.{Goal}
use Rattle.rules.specs.declared.goal.GoalLine.{GoalLine}
use Rattle.candidates.specs.Names.{AreNames, NameTable}
use Rattle.universe.specs.Admitted.{Admitted, asked_of}
use Rattle.universe_build.specs.Build.{inputs_of, request_of}
use Rattle.universe_build.specs.Choice.{exact_of}

-- the names of the start and of the indices, and what is admitted of them where there is no goal, for all versions or not
pub record Listing : Type 0 where
  pub names : NameTable
  pub admitted : Admitted
  pub asks_all_versions : Bool

-- it is that of the start and the indices by the preferences
pub record IsListing (start : List Record) (indices : List Index) (prefs : Preferences) (listing : Listing) : Type 0 where
  pub names : AreNames start indices listing.names
  pub universe : IsUniverse (inputs_of start indices prefs (request_of [] listing.asks_all_versions)) (asked_of listing.admitted [])

-- the version that the goal asks for with `=` is that of a pair, if it asks for one
abbrev pub is_among : List Pair → Goal → Bool
is_among pairs asked =
    option_map_or (λ exact. list_any (λ pair. is_of exact.name exact.version pair.pkg) pairs) (exact_of asked) true

-- each version that the goals of the lines ask for with `=` is that of a pair
abbrev pub are_among : List Pair → List GoalLine → Bool
are_among pairs lines = list_all (λ asked. is_among pairs asked.goal) lines
