-- The numbers so far, with those of what is left, are all numbers of the set.
use Rattle.std.proofs.Common.{◌≡◌, ◌++◌, drop}
use Rattle.search.specs.Set.{numbers_from}
use Rattle.search.proofs.pass.members.Given as goal

abbrev pub invariant-loop-number : goal.invariant-loop-number
invariant-loop-number l = l.numbers.items ++ numbers_from l.number (drop l.number l.set.items) ≡ numbers_from 0 l.set.items
