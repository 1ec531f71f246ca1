-- The numbers so far are marked.
use Rattle.std.proofs.Common.{◌≡◌, ℕ, ◌+◌, ◌<◌, length, take}
use Rattle.refutation.specs.Selection.{selects}
use Rattle.fixed_order.specs.Selection.{marked}
use Rattle.fixed_order.proofs.selection.marks_of.Given as goal

abbrev pub invariant-loop-number : goal.invariant-loop-number
invariant-loop-number l = record {
  long : length l.marks.items ≡ l.greatest + 1;
  same : (number : ℕ) → number < l.greatest + 1 → marked l.marks.items number ≡ selects (take l.number-index l.selection) number;
}
