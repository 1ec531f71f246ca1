-- The items so far, before those of the parts that are left, are those of all parts.
use Rattle.std.proofs.Common.{◌≡◌, drop, map}
use Rattle.pins.specs.Pin.{items_in, with_items}
use Rattle.pins.proofs.release_pin.items_in.Given as goal

abbrev pub invariant-loop-part : goal.invariant-loop-part
invariant-loop-part l = items_in (map (λ part. part.now) l.parts)
    ≡ with_items l.items.items (items_in (map (λ part. part.now) (drop l.part-index l.parts)))
