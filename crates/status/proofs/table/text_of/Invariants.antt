use Rattle.std.proofs.Common.{◌≡◌, take}
use Rattle.status.proofs.TextLemmas.{texts_in}
use Rattle.status.specs.Text.{places_text}
use Rattle.status.proofs.table.text_of.Given as goal
use Rattle.std.specs.Arc.{arc_slice_items}

-- the text is that of the places so far
abbrev pub invariant-loop-place : goal.invariant-loop-place
invariant-loop-place l = l.out.items ≡ places_text (texts_in (λ t. arc_slice_items t) (take l.place-index l.places))
