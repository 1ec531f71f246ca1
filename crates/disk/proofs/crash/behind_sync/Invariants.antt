use Rattle.std.proofs.Common.{◌≤◌}
use Rattle.disk.specs.Crash.{NoSyncDone}
use Rattle.disk.proofs.crash.behind_sync.Given as goal

abbrev pub invariant-loop-from : goal.invariant-loop-from
invariant-loop-from l = record { within : l.from ≤ l.to; none : NoSyncDone l.calls l.from l.to }

abbrev pub decreases-loop-from : goal.decreases-loop-from
decreases-loop-from l = l.from
