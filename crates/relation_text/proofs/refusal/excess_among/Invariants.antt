-- The first atom too many of what is left is that of the value.
use Rattle.std.proofs.Common.{◌≡◌, ◌≤◌, ◌-◌, ◌+◌, length}
use Rattle.relation_text.specs.Cut.{parts_left, len_left}
use Rattle.relation_text.specs.Refusal.{excess_from, most_atoms}
use Rattle.relation_text.specs.Spelling.{parts_of}
use Rattle.relation_text.proofs.refusal.excess_among.Given as goal

abbrev pub invariant-loop-left : goal.invariant-loop-left
invariant-loop-left l = record {
  within : len_left l.left ≤ length l.value + 1;
  same : excess_from l.more (length l.value + 1 - len_left l.left) (parts_left l.separator l.left)
      ≡ excess_from most_atoms 0 (parts_of l.separator l.value);
}

abbrev pub decreases-loop-left : goal.decreases-loop-left
decreases-loop-left l = len_left l.left
