-- The least of names with a property, and the names that a removal leaves.
use Rattle.std.specs.Prelude.{◌≡◌, ℕ, Bool, List, bytes_eq, not}
use Rattle.std.specs.List.{Contains, filter}
use Rattle.std.specs.declared.cmp.Ordering.TheVariants.{Less}
use Rattle.rules.specs.Name.{name_cmp}
use Rattle.rules.specs.declared.step.Step.{Step}
use Rattle.rules.specs.declared.step.Step.TheVariants as step

-- the name is the least of these with the property
pub record IsLeastOf (P : List ℕ → Type 0) (names : List (List ℕ)) (name : List ℕ) : Type 0 where
  pub within : Contains names name
  pub has : P name
  pub least : (other : List ℕ) → Contains names other → P other → ¬ (name_cmp other name ≡ Less)

-- the other name is another one, as a test
abbrev pub is_other : List ℕ → List ℕ → Bool
is_other name other = not (bytes_eq other name)

-- the names but for the one that the step removes; a step that removes none leaves them all
abbrev pub left_by : Step → List (List ℕ) → List (List ℕ)
left_by (step.Remove name) names = filter (is_other name) names
left_by other names = names
