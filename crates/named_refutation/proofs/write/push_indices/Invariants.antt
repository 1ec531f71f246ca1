-- The lines of the indices so far stand behind the text.
use Rattle.std.proofs.Common.{◌≡◌, ◌++◌, take}
use Rattle.std.specs.List.{flat_map}
use Rattle.named_refutation.specs.Index.{index_text}
use Rattle.named_refutation.proofs.write.push_indices.Given as goal

abbrev pub invariant-loop-index : goal.invariant-loop-index
invariant-loop-index l = l.text.items ≡ l.initial.text.items ++ flat_map index_text (take l.index-index l.indices)
