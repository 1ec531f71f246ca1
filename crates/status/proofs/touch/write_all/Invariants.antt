use Rattle.std.proofs.Common.{◌≡◌, ◌++◌, map}
use Rattle.rules.specs.FileRecord.{touched_entry}
use Rattle.rules.specs.Step.{is_among}
use Rattle.status.specs.Action.{left_of}
use Rattle.status.specs.Slots.{changed_slots}
use Rattle.status.specs.Stored.{as_stored}
use Rattle.status.proofs.touch.write_all.Given as goal

-- what was written and what is left is the whole, and the table has what was written
abbrev pub invariant-loop-one : goal.invariant-loop-one
invariant-loop-one l =
    (l.yielded ++ l.one-iterator.rest.items ≡ l.fn.left.items)
    × (l.table ≡ record l.fn.table {
      slots = map as_stored (changed_slots (is_among (map (λ one. one.name.now) l.yielded)) (touched_entry (left_of l.fn.action)) l.fn.table.slots);
    })
