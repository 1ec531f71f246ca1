-- What is known of the first pairs of a universe.
use Rattle.std.specs.Prelude.{◌≡◌, ◌↔◌, ℕ, suc, ◌+◌, ◌<◌, true, false, length, Some, slice_get}
use Rattle.rules.specs.Minimal.{IsWanted, Stood, WasPresent}
use Rattle.rules.specs.Universe.{Universe, Pair}
use Rattle.search_settle.specs.Moves.{Known}
use Rattle.search_settle.specs.Truth.{holds}

-- what is known of a number is so of the pair
pub record IsSoOf (u : Universe) (known : Known) (number : ℕ) (pair : Pair) : Type 0 where
  pub present : (holds known.present number ≡ true) ↔ WasPresent u pair.pkg.name
  pub stood : (holds known.stood number ≡ true) ↔ Stood u pair.pkg
  pub wanted : (holds known.wanted number ≡ true) ↔ IsWanted u pair.pkg

-- it is so of each of the first pairs, and of no number besides
pub record IsKnownTo (u : Universe) (known : Known) (count : ℕ) : Type 0 where
  pub present_long : length known.present ≡ count + 1
  pub stood_long : length known.stood ≡ count + 1
  pub wanted_long : length known.wanted ≡ count + 1
  pub each : (place : ℕ) (pair : Pair) → place < count → slice_get u.pairs place ≡ Some pair → IsSoOf u known (suc place) pair
  pub none : (holds known.wanted 0 ≡ false) × (holds known.present 0 ≡ false)
