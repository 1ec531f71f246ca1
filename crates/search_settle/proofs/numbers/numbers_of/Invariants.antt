-- The numbers so far, with those of what is left, are all numbers of the set.
use Rattle.std.proofs.Common.{◌≡◌, ◌++◌, drop}
use Rattle.search_settle.specs.Selected.{numbers_from}
use Rattle.search_settle.proofs.numbers.numbers_of.Given as goal

abbrev pub invariant-loop-number : goal.invariant-loop-number
invariant-loop-number l = l.numbers.items ++ numbers_from l.number (drop l.number l.set.items) ≡ numbers_from 0 l.set.items
