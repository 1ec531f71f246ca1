-- Where a list of rules has its first that isn't kept.
use Rattle.std.proofs.Common.{ℕ, zero, suc, ◌<◌, List, [], ◌∷◌, length, get_or, refl, arith}
use Rattle.rules.specs.Legal.{IsFirstUnkept}
use Rattle.rules.specs.declared.step.Rule.{Rule}
use mathlib.Core.Logic.{inl, inr}

-- the rule at a place that isn't kept is the first, where all before the place are kept
pub IsFirstUnkept-at : (IsKept : Rule → Type 0) (rules : List Rule) (place : ℕ) (d : Rule) → place < length rules
    → ¬ IsKept (get_or rules place d) → ((earlier : ℕ) (e : Rule) → earlier < place → IsKept (get_or rules earlier e))
    → IsFirstUnkept IsKept rules (get_or rules place d)
IsFirstUnkept-at IsKept [] place d within fails before = absurd (omega arith)
IsFirstUnkept-at IsKept (first ∷ rest) zero d within fails before = inl (refl, fails)
IsFirstUnkept-at IsKept (first ∷ rest) (suc place) d within fails before = inr (
  before 0 first (omega arith),
  IsFirstUnkept-at IsKept rest place d (omega arith) fails (λ earlier e below. before (suc earlier) e (omega arith)),
)
