-- The goal of a line by itself (this project's own).
use Rattle.std.specs.Prelude.{◌≡◌, ℕ, Bool, true, false, List, [], ◌∷◌, Option, Some, None, Result, Ok, Err, map}
use Rattle.std.specs.List.{slice_index_or}
use Rattle.rules.specs.declared.goal.Goal.{Goal}
use Rattle.rules.specs.declared.goal.Goal.TheVariants as goal
use Rattle.rules.specs.declared.goal.GoalLine.{GoalLine}
use Rattle.universe_request.specs.Request.{ReadRequest, read_request}
use Rattle.universe_request.specs.declared.error.RequestFault.{RequestFault}

-- the goals of a request that is read; of one that is refused none
abbrev pub goals_read : Result ReadRequest RequestFault → List GoalLine
goals_read (Ok read) = read.goals
goals_read (Err fault) = []

-- the goals of the request that the line is by itself
abbrev pub goals_in : List ℕ → List ℕ → List GoalLine
goals_in arch line = goals_read (read_request arch line)

-- the only goal, if there is one
abbrev pub only_goal : List GoalLine → Option Goal
only_goal [] = None
only_goal (only ∷ []) = Some only.goal
only_goal (first ∷ second ∷ later) = None

-- the goal is `upgrade-all`
abbrev pub asks_for_all : Option Goal → Bool
asks_for_all None = false
asks_for_all (Some (goal.Install name restriction)) = false
asks_for_all (Some (goal.Remove name)) = false
asks_for_all (Some (goal.Purge name)) = false
asks_for_all (Some (goal.Upgrade name)) = false
asks_for_all (Some goal.UpgradeAll) = true
asks_for_all (Some goal.NoRemove) = false

-- the goal asks for an installation or an upgrade
abbrev pub asks_for_more : Option Goal → Bool
asks_for_more None = false
asks_for_more (Some (goal.Install name restriction)) = true
asks_for_more (Some (goal.Remove name)) = false
asks_for_more (Some (goal.Purge name)) = false
asks_for_more (Some (goal.Upgrade name)) = true
asks_for_more (Some goal.UpgradeAll) = false
asks_for_more (Some goal.NoRemove) = false

-- the line at this place asks for an installation or an upgrade
abbrev pub AsksForMoreAt : List ℕ → List (List ℕ) → ℕ → Type 0
AsksForMoreAt arch lines place = asks_for_more (only_goal (slice_index_or (map (goals_in arch) lines) place [])) ≡ true
