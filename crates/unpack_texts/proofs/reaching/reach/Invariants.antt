-- So many stanzas were read of whatever text the source had, and the others are left.
use Rattle.std.proofs.Common.{◌-◌, ◌≡◌, ◌≤◌, ℕ, List, None, Some, true}
use Rattle.unpack_texts.specs.Fetched.{HasRead, Items}
use Rattle.unpack_texts.proofs.reaching.reach.Given as goal

abbrev pub invariant-loop-reached : goal.invariant-loop-reached
invariant-loop-reached g l = record {
  order : l.reached ≤ l.number;
  sound : l.reader.failed ≡ None;
  known : (left : List ℕ) → g.S.Source.left l.initial.source ≡ Some left → (more : List ℕ) × (g.S.Source.left l.source ≡ Some more);
  so_far : (items : Items) (left : List ℕ) → g.S.Source.left l.initial.source ≡ Some left → HasRead items l.at l.initial.reader left
      → (more : List ℕ) × (g.S.Source.left l.source ≡ Some more) × HasRead items l.reached l.reader more;
  sure : g.S.Source.is_sure l.initial.source ≡ true → g.S.Source.is_sure l.source ≡ true;
  count : g.S.Source.faults l.source ≡ g.S.Source.faults l.initial.source;
}

abbrev pub decreases-loop-reached : goal.decreases-loop-reached
decreases-loop-reached g l = l.number - l.reached
