-- The texts of the first stanzas are put at their places.
use Rattle.std.proofs.Common.{◌≡◌, ◌-◌, ◌≤◌, Ok, Some, length, map, take}
use Rattle.inputs.specs.ReadBy.{IsReadBy}
use Rattle.inputs.specs.Texts.{Shelved}
use Rattle.unpack_texts.specs.Filled.{IsFilled}
use Rattle.unpack_texts.specs.Opened.{Belongs}
use Rattle.unpack_texts.proofs.texts.fetch_all.Given as goal

abbrev pub invariant-loop-at : goal.invariant-loop-at
invariant-loop-at g l = record {
  within : l.at ≤ length l.wanted;
  size : length l.texts.items ≡ length l.fn.texts.items;
  filled : (at : Shelved) → g.S.Shelf.known_texts l.fn.shelf ≡ Some at
      → IsFilled (Belongs l.arch at.index (map (λ file. file.now) l.files)) (take l.at l.wanted) l.fn.texts.items l.texts.items;
  read : IsReadBy g.S.Shelf l.fn.shelf (Ok l.texts) l.shelf;
}

abbrev pub decreases-loop-at : goal.decreases-loop-at
decreases-loop-at g l = length l.wanted - l.at
