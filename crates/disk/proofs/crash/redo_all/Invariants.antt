use Rattle.std.proofs.Common.{◌≡◌, ◌≤◌, ◌-◌, ℕ, List, drop, take, reverse}
use Rattle.disk.specs.Crash.{undone}
use Rattle.disk.specs.Memory.{Leaves}
use Rattle.disk.proofs.crash.redo_all.Given as goal

abbrev pub invariant-loop-i : goal.invariant-loop-i
invariant-loop-i l = record {
  above : l.from ≤ l.i;
  within : l.i ≤ l.to;
  left : (seen : List ℕ) → l.fn.left.items ≡ undone (drop l.from l.calls) seen → Leaves (undone (drop l.i l.calls) seen) (reverse (take l.i l.calls)) l.left.items;
}

abbrev pub decreases-loop-i : goal.decreases-loop-i
decreases-loop-i l = l.to - l.i
