-- The first refused version of what is left is that of the value.
use Rattle.std.proofs.Common.{◌≡◌, ◌≤◌, ◌-◌, ◌+◌, length}
use Rattle.relation_text.specs.Cut.{parts_left, len_left}
use Rattle.relation_text.specs.Refusal.{version_refusal_from}
use Rattle.relation_text.specs.Spelling.{parts_of}
use Rattle.relation_text.proofs.refusal.version_refusal.Given as goal

abbrev pub invariant-loop-left : goal.invariant-loop-left
invariant-loop-left l = record {
  within : len_left l.left ≤ length l.value + 1;
  same : version_refusal_from (length l.value + 1 - len_left l.left) (parts_left l.separator l.left)
      ≡ version_refusal_from 0 (parts_of l.separator l.value);
}

abbrev pub decreases-loop-left : goal.decreases-loop-left
decreases-loop-left l = len_left l.left
