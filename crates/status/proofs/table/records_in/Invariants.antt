use Rattle.std.proofs.Common.{◌≡◌, take}
use Rattle.status.proofs.TextLemmas.{texts_in}
use Rattle.status_text.specs.Slot.{entries_of}
use Rattle.status.specs.Places.{slots_at, slots_read}
use Rattle.status.proofs.table.records_in.Given as goal
use Rattle.std.specs.Arc.{arc_slice_items}

-- the records are those of the places so far
abbrev pub invariant-loop-place : goal.invariant-loop-place
invariant-loop-place l = l.records.items ≡ entries_of (slots_at (slots_read l.arch (texts_in (λ t. arc_slice_items t) (take l.place-index l.places))))
