-- The numbers so far are lifted.
use Rattle.std.proofs.Common.{◌≡◌, Some, take}
use Rattle.std.specs.List.{AllZip}
use Rattle.refutation.specs.Clause.{item_at}
use Rattle.solver.proofs.lift.lift_numbers.Given as goal

abbrev pub invariant-loop-number : goal.invariant-loop-number
invariant-loop-number l = AllZip (λ place number. item_at l.numbers place ≡ Some number) (take l.number-index l.chosen) l.lifted.items
