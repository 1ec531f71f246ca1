-- The items so far are those of the changes before the index.
use Rattle.std.proofs.Common.{◌≡◌, map, take}
use Rattle.plan_sentences.specs.Told.{items_of}
use Rattle.plan_sentences.proofs.lines.items_of.Given as goal

abbrev pub invariant-loop-one : goal.invariant-loop-one
invariant-loop-one l = map (λ item. item.items) l.items.items ≡ items_of l.kind (take l.one-index l.told)
