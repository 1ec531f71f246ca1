-- What the items so far offer stands behind the others.
use Rattle.std.proofs.Common.{◌≡◌, ◌++◌, take}
use Rattle.std.specs.List.{flat_map}
use Rattle.providers.specs.Offers.{offers_by}
use Rattle.providers.proofs.unsorted.push_items.Given as goal

abbrev pub invariant-loop-item : goal.invariant-loop-item
invariant-loop-item l = l.offers.items ≡ l.initial.offers.items ++ flat_map (offers_by l.place) (take l.item-index l.items)
