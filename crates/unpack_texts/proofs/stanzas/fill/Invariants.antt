-- Once the texts that are left are put at their places, all are.
use Rattle.std.proofs.Common.{◌≡◌, ◌+◌, drop, length, map}
use Rattle.std.specs.Vec.Iter.{into_iter_items}
use Rattle.unpack_texts.specs.Stanzas.{filled}
use Rattle.unpack_texts.proofs.stanzas.fill.Given as goal

abbrev pub invariant-loop-text : goal.invariant-loop-text
invariant-loop-text l = record {
  can : (goal.iterator-loop-text).can_next l.text-iterator;
  ends : (goal.iterator-loop-text).is_finite l.text-iterator;
  count : l.at + length (into_iter_items l.text-iterator) ≡ length l.wanted;
  size : length l.stanzas.items ≡ length l.fn.stanzas.items;
  left : filled l.stanzas.items (drop l.at l.wanted) (map (λ text. text.items) (into_iter_items l.text-iterator))
      ≡ filled l.fn.stanzas.items l.wanted (map (λ text. text.items) l.fn.texts.items);
}
