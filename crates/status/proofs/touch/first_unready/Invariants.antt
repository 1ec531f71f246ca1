use Rattle.std.proofs.Common.{◌≡◌, drop}
use Rattle.status.specs.Action.{starts_from}
use Rattle.status.specs.Applicable.{first_unready}
use Rattle.status_text.specs.Slot.{slot_records}
use Rattle.status.proofs.touch.first_unready.Given as goal

-- what is left of the names answers for all of them
abbrev pub invariant-loop-name : goal.invariant-loop-name
invariant-loop-name l =
    first_unready (starts_from l.action) l.names (slot_records l.table.slots) ≡ first_unready (starts_from l.action) (drop l.name-index l.names) (slot_records l.table.slots)
