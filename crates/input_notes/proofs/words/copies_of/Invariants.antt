-- The copies are those of the names so far.
use Rattle.std.proofs.Common.{◌≡◌, map, take}
use Rattle.input_notes.proofs.words.copies_of.Given as goal

abbrev pub invariant-loop-name : goal.invariant-loop-name
invariant-loop-name l = map (λ item. item.items) l.items.items ≡ map (λ name. name.now) (take l.name-index l.names)
