-- The numbers so far, with those of what is left, are those of all marks.
use Rattle.std.proofs.Common.{◌≡◌, ◌+◌, ◌++◌, drop}
use Rattle.reach.specs.Marks.{numbers_from}
use Rattle.reach.proofs.marks.Marks.numbers.Given as goal

abbrev pub invariant-loop-place : goal.invariant-loop-place
invariant-loop-place l = l.numbers.items ++ numbers_from (l.place + 1) (drop l.place l.self.marks) ≡ numbers_from 1 l.self.marks
