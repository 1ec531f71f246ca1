-- The names that goals are to purge.
use Rattle.std.specs.Prelude.{ℕ, List}
use Rattle.index.specs.Names.{with_name}
use Rattle.rules.specs.declared.goal.Goal.{Goal}
use Rattle.rules.specs.declared.goal.Goal.TheVariants as goal

-- the names, with the one behind them that a purge goal names unless it is there
abbrev pub with_purge : List (List ℕ) → Goal → List (List ℕ)
with_purge names (goal.Install name restriction) = names
with_purge names (goal.Remove name) = names
with_purge names (goal.Purge name) = with_name names name
with_purge names (goal.Upgrade name) = names
with_purge names goal.UpgradeAll = names
with_purge names goal.NoRemove = names
