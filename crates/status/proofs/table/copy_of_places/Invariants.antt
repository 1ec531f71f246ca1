use Rattle.std.proofs.Common.{◌≡◌, take}
use Rattle.status.proofs.TextLemmas.{texts_in}
use Rattle.status.proofs.table.copy_of_places.Given as goal
use Rattle.std.specs.Arc.{arc_slice_items}

-- the copy has the texts of the places so far
abbrev pub invariant-loop-place : goal.invariant-loop-place
invariant-loop-place l =
    texts_in (λ t. arc_slice_items t) l.copy.items ≡ texts_in (λ t. arc_slice_items t) (take l.place-index l.places)
