-- Which names goals ask to purge (dpkg(1)).
use Rattle.std.specs.Prelude.{◌≡◌, ◌↔◌, ℕ, List}
use Rattle.std.specs.List.{Contains}
use Rattle.rules.specs.Database.{Record, HasRecord, IsRemoved}
use Rattle.rules.specs.declared.goal.Goal.{Goal}
use Rattle.rules.specs.declared.goal.Goal.TheVariants as goal

-- the goal is to purge the name, and configuration files of it are left
abbrev pub IsToPurgeBy : List Record → Goal → List ℕ → Type 0
IsToPurgeBy db asked name = (asked ≡ goal.Purge name) × HasRecord IsRemoved name db

-- just the names that one of the goals is to purge and of which configuration files are left
abbrev pub ArePurgesIn : List Record → List Goal → List (List ℕ) → Type 0
ArePurgesIn db goals names =
    (name : List ℕ) → Contains names name ↔ (Contains goals (goal.Purge name) × HasRecord IsRemoved name db)
