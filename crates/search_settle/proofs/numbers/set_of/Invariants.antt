-- The set holds the numbers so far.
use Rattle.std.proofs.Common.{◌≡◌, ℕ, ◌+◌, length, take}
use Rattle.refutation.specs.Selection.{selects}
use Rattle.search_settle.specs.Truth.{holds}
use Rattle.search_settle.proofs.numbers.set_of.Given as goal

abbrev pub invariant-loop-number : goal.invariant-loop-number
invariant-loop-number l = (length l.set.items ≡ l.greatest + 1)
    × ((number : ℕ) → holds l.set.items number ≡ selects (take l.number-index l.selection) number)
