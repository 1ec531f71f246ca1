use Rattle.std.proofs.Common.{◌≡◌, ◌+◌, length}
use Rattle.rules.specs.Version.{part_cmp}
use Rattle.debversion.proofs.compare.part_cmp.Given as goal

abbrev pub invariant-loop-left : goal.invariant-loop-left
invariant-loop-left l = part_cmp l.fn.a l.fn.b ≡ part_cmp l.left l.right

abbrev pub decreases-loop-left : goal.decreases-loop-left
decreases-loop-left l = length l.left + length l.right
