-- The texts so far, ended, and those that are left.
use Rattle.std.proofs.Common.{◌≡◌, ◌++◌, map}
use Rattle.std.specs.Vec.Iter.{into_iter_items}
use Rattle.unpack_texts.specs.Texts.{with_newline}
use Rattle.unpack_texts.proofs.ending.all_ended.Given as goal

abbrev pub invariant-loop-text : goal.invariant-loop-text
invariant-loop-text l = record {
  can : (goal.iterator-loop-text).can_next l.text-iterator;
  ends : (goal.iterator-loop-text).is_finite l.text-iterator;
  done : map (λ text. text.items) l.all.items ++ map (λ text. with_newline text.items) (into_iter_items l.text-iterator)
      ≡ map (λ text. with_newline text.items) l.fn.texts.items;
}
