use Rattle.std.proofs.Common.{◌≡◌, ◌↔◌, drop}
use Rattle.apply.proofs.comparing.are_same_names.Given as goal

abbrev pub invariant-loop-i : goal.invariant-loop-i
invariant-loop-i l = l.left ≡ l.right ↔ drop l.i l.left ≡ drop l.i l.right
