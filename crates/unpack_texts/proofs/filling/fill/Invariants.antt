-- Once the texts that are left are put at their places, all are.
use Rattle.std.proofs.Common.{◌≡◌, ◌+◌, drop, length, map}
use Rattle.std.specs.Vec.Iter.{into_iter_items}
use Rattle.unpack_texts.specs.Filled.{filled}
use Rattle.unpack_texts.proofs.filling.fill.Given as goal

abbrev pub invariant-loop-text : goal.invariant-loop-text
invariant-loop-text l = record {
  can : (goal.iterator-loop-text).can_next l.text-iterator;
  ends : (goal.iterator-loop-text).is_finite l.text-iterator;
  count : l.at + length (into_iter_items l.text-iterator) ≡ length l.group;
  size : length l.texts.items ≡ length l.fn.texts.items;
  left : filled l.texts.items (drop l.at l.group) (map (λ text. text.items) (into_iter_items l.text-iterator))
      ≡ filled l.fn.texts.items l.group (map (λ text. text.items) l.fn.fetched.items);
}
