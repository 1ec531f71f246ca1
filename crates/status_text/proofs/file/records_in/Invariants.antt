use Rattle.std.proofs.Common.{◌≡◌, map, take}
use Rattle.status_text.specs.Slot.{entries_of}
use Rattle.status_text.proofs.file.records_in.Given as goal

-- the records are those of the slots so far
abbrev pub invariant-loop-slot : goal.invariant-loop-slot
invariant-loop-slot l = map (λ r. r.now) l.records.items ≡ entries_of (take l.slot-index l.slots)
