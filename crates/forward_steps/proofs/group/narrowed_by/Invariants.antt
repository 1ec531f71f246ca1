-- The group is settled by the names before the index.
use Rattle.std.proofs.Common.{take}
use Rattle.forward_steps.specs.Group.{IsNarrowedBy}
use Rattle.forward_steps.proofs.group.narrowed_by.Given as goal

abbrev pub invariant-loop-name : goal.invariant-loop-name
invariant-loop-name l = IsNarrowedBy l.db l.names (take l.name-index l.names) l.narrow.items
