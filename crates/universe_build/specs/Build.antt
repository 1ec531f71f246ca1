-- Which request is refused, and what its universe is made of (this project's own).
use Rattle.std.specs.Prelude.{ℕ, Bool, false, not, List, map, ◌&&◌, Option, Some, None}
use Rattle.std.specs.List.{find}
use Rattle.std.specs.Option.{option_map, option_map_or}
pub use Rattle.candidates.specs.Inputs.{indices_of, inputs_of}
use Rattle.rules.specs.Available.{Request}
use Rattle.rules.specs.Database.{Record}
use Rattle.rules.specs.Step.{IndexPackage}
use Rattle.rules.specs.Universe.{Candidate, Pair, Universe, starts_of}
use Rattle.rules.specs.declared.goal.Goal.{Goal}
use Rattle.rules.specs.declared.goal.Goal.TheVariants as goal
use Rattle.rules.specs.declared.goal.GoalLine.{GoalLine}
use Rattle.candidates.specs.Recorded.{is_recorded}
use Rattle.candidates.specs.Stanza.{has_name}

-- the goals of the lines
abbrev pub goals_of : List GoalLine → List Goal
goals_of lines = map (λ asked. asked.goal) lines

-- the request of these lines, for all versions or not
abbrev pub request_of : List GoalLine → Bool → Request
request_of lines all = record { goals = goals_of lines; asks_all_versions = all }

-- the name that the goal names, if it names one
abbrev pub named_by : Goal → Option (List ℕ)
named_by (goal.Install name restriction) = Some name
named_by (goal.Remove name) = Some name
named_by (goal.Purge name) = Some name
named_by (goal.Upgrade name) = Some name
named_by goal.UpgradeAll = None
named_by goal.NoRemove = None

-- the goal names a package that no stanza has, and that is in no state but not-installed
abbrev pub is_unknown : List Record → List IndexPackage → Goal → Bool
is_unknown start listed asked =
    option_map_or (λ name. not (has_name listed name) && not (is_recorded start name)) (named_by asked) false

-- the line of the first goal that names an unknown package
abbrev pub first_unknown : List Record → List IndexPackage → List GoalLine → Option ℕ
first_unknown start listed lines =
    option_map (λ asked. asked.line) (find (λ asked. is_unknown start listed asked.goal) lines)

-- the universe of these pairs and candidates for the goals of the lines over the start
abbrev pub universe_with : List Record → List GoalLine → List Pair → List Candidate → Universe
universe_with start lines pairs candidates = record { pairs = pairs; goals = goals_of lines; starts = starts_of start; candidates = candidates }
