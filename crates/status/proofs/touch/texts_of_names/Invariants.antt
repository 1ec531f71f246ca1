use Rattle.std.proofs.Common.{◌≡◌, map, take}
use Rattle.std.specs.List.{AllByRecursion}
use Rattle.status.specs.Change.{IsTextAfter}
use Rattle.status.proofs.touch.texts_of_names.Given as goal
use Rattle.std.specs.Arc.{arc_slice_items}

-- there is a text for each of the names so far
abbrev pub invariant-loop-name : goal.invariant-loop-name
invariant-loop-name l =
    (map (λ one. one.name.now) l.left.items ≡ take l.name-index l.names)
    × AllByRecursion (λ one. IsTextAfter l.action l.table one.name.now (arc_slice_items one.text)) l.left.items
