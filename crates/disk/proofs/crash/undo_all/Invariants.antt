use Rattle.std.proofs.Common.{◌≡◌, ◌≤◌, ◌-◌, length, drop}
use Rattle.disk.specs.Crash.{undone}
use Rattle.disk.proofs.crash.undo_all.Given as goal

abbrev pub invariant-loop-i : goal.invariant-loop-i
invariant-loop-i l = record { above : l.from ≤ l.i; within : l.i ≤ length l.calls; is : l.left.items ≡ undone (drop l.i l.calls) l.fn.left.items }

abbrev pub decreases-loop-i : goal.decreases-loop-i
decreases-loop-i l = l.i - l.from
