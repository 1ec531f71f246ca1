-- The indices so far and what is left of the sources are what all of them are, and what was read so far wasn't refused.
use Rattle.std.proofs.Common.{◌≡◌, ◌≤◌, ◌+◌, length, Ok, Some}
use Rattle.std.specs.Vec.Iter.{into_iter_items, into_iter_len}
use Rattle.rules.specs.declared.limits.TheConstants.{PACKAGES}
use Rattle.inputs.specs.Indices.{indices_from, released, with_indices}
use Rattle.inputs.specs.ReadBy.{IsReadBy}
use Rattle.inputs.specs.Texts.{Shelved}
use Rattle.inputs.proofs.indices.read_each.Given as goal

abbrev pub invariant-loop-source : goal.invariant-loop-source
invariant-loop-source g l = record {
  left : into_iter_len l.source-iterator ≡ length (into_iter_items l.source-iterator);
  count : l.number + length (into_iter_items l.source-iterator) ≡ length l.fn.sources.items;
  lengths : length l.kept.items ≡ length l.releases.items;
  read : IsReadBy g.S.Shelf l.fn.shelf (Ok l.kept) l.shelf;
  bounded : (at : Shelved) → g.S.Shelf.known_texts l.fn.shelf ≡ Some at → l.before ≤ PACKAGES;
  same : (at : Shelved) → g.S.Shelf.known_texts l.fn.shelf ≡ Some at → indices_from l.arch at.index 1 0 l.fn.sources.items
      ≡ with_indices (released l.releases.items l.kept.items)
      (indices_from l.arch at.index (l.number + 1) l.before (into_iter_items l.source-iterator));
}
