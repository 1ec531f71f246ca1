-- The names so far are the ready ones before the index.
use Rattle.std.proofs.Common.{take}
use Rattle.plancheck_group.specs.Part.{IsPartWith, IsReady}
use Rattle.plancheck_group.proofs.ready.ready_of.Given as goal

abbrev pub invariant-loop-name : goal.invariant-loop-name
invariant-loop-name l = IsPartWith (IsReady l.db) (take l.name-index l.names) l.ready.items
