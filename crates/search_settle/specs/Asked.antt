-- The names that goals ask for.
use Rattle.std.specs.Prelude.{ℕ, List, [], fold}
use Rattle.index.specs.Names.{with_name}
use Rattle.rules.specs.declared.goal.Goal.{Goal}
use Rattle.rules.specs.declared.goal.Goal.TheVariants as goal

-- the names, with the one behind them that an install or upgrade goal names unless it is there
abbrev pub with_asked : List (List ℕ) → Goal → List (List ℕ)
with_asked names (goal.Install asked restriction) = with_name names asked
with_asked names (goal.Remove asked) = names
with_asked names (goal.Purge asked) = names
with_asked names (goal.Upgrade asked) = with_name names asked
with_asked names goal.UpgradeAll = names
with_asked names goal.NoRemove = names

-- the names that the goals ask for, each once
abbrev pub asked_in : List Goal → List (List ℕ)
asked_in goals = fold with_asked [] goals
