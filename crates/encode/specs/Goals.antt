-- What goals say, as premises (after apt-get(8)).
use Rattle.std.specs.Prelude.{◌≡◌, ◌⊎◌, ℕ, Bool, true, false, List, Some}
use Rattle.std.specs.List.{Contains}
use Rattle.rules.specs.Universe.{Start, Universe}
use Rattle.rules.specs.declared.goal.Goal.{Goal}
use Rattle.rules.specs.declared.goal.Goal.TheVariants as goal
use Rattle.refutation.specs.Clause.{item_at}
use Rattle.refutation.specs.Premise.{IsUpgradeFrom, PairHas}
use Rattle.refutation.specs.declared.line.Premise.{Premise}
use Rattle.refutation.specs.declared.line.Premise.TheVariants as premise
use Rattle.refutation.specs.declared.literal.Literal.{Literal}
use Rattle.refutation.specs.declared.literal.Literal.TheVariants as literal

-- that the pair is selected, or that it isn't
abbrev pub said : Bool → ℕ → Literal
said true pair = literal.Selected pair
said false pair = literal.Unselected pair

-- the premise is of the goal of the number and one of the pairs
abbrev pub IsOnEach : ℕ → List ℕ → Premise → Type 0
IsOnEach number pairs reason = (pair : ℕ) × Contains pairs pair × (reason ≡ premise.GoalOn number pair)

-- the pair is the candidate of what the start says, which is unheld and stands in a lower version
abbrev pub IsUpgradeOf : Universe → Start → ℕ → Type 0
IsUpgradeOf u start pair = PairHas u pair (λ pkg. IsUpgradeFrom u pkg start)

-- the premise is of the goal of the number and such a pair
abbrev pub IsUpgradeBy : Universe → ℕ → Start → Premise → Type 0
IsUpgradeBy u number start reason = (pair : ℕ) × IsUpgradeOf u start pair × (reason ≡ premise.GoalOn number pair)

-- the goal of the number is to remove or to purge the name
abbrev pub IsRemovalOf : List Goal → ℕ → List ℕ → Type 0
IsRemovalOf goals number name = (item_at goals number ≡ Some (goal.Remove name)) ⊎ (item_at goals number ≡ Some (goal.Purge name))
