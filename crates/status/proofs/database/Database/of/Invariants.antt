use Rattle.std.proofs.Common.{◌≡◌, map, take}
use Rattle.status.specs.Stored.{as_stored}
use Rattle.status.proofs.database.Database.of.Given as goal

-- the table has the slots so far
abbrev pub invariant-loop-slot : goal.invariant-loop-slot
invariant-loop-slot l = l.table ≡ record { arch = l.file.arch; slots = map as_stored (take l.slot-index l.slot-items) }
