-- When a selection is as near to the start as single changes bring it.
use Rattle.std.specs.Prelude.{◌≡◌, ℕ, ◌≤◌, Bool, true}
use Rattle.search_settle.specs.Given.{Given}
use Rattle.search_settle.specs.Moves.{IsAtRest, Known}
use Rattle.search_settle.specs.Reach.{AllReached}
use Rattle.search_settle.specs.Truth.{holds}

-- a number whose name was present is wanted
unfoldable pub IsCovered : Known → Type 0
IsCovered known = (number : ℕ) → holds known.present number ≡ true → holds known.wanted number ≡ true

-- each number is at rest, and each member is reached
pub record IsSettled (given : Given) (known : Known) (selection : ℕ → Bool) : Type 0 where
  pub rests : (number : ℕ) → 1 ≤ number → number ≤ given.numbers → IsAtRest given known selection number
  pub reached : AllReached given known selection
