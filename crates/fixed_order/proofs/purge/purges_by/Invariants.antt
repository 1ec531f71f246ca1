-- The names so far are those of the goals before the index.
use Rattle.std.proofs.Common.{take}
use Rattle.fixed_order.specs.Purge.{ArePurgesIn}
use Rattle.fixed_order.proofs.purge.purges_by.Given as goal

abbrev pub invariant-loop-asked : goal.invariant-loop-asked
invariant-loop-asked l = ArePurgesIn l.db (take l.asked-index l.goals) l.keys.items
