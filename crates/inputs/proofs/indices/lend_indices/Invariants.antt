-- The indices so far and what is left of the release keys are what all of them are.
use Rattle.std.proofs.Common.{◌≡◌, ◌+◌, ◌++◌, drop, length}
use Rattle.std.specs.Vec.Iter.{into_iter_items, into_iter_len}
use Rattle.candidates.specs.Inputs.{indices_of}
use Rattle.inputs.specs.Indices.{released}
use Rattle.inputs.proofs.indices.lend_indices.Given as goal

abbrev pub invariant-loop-release : goal.invariant-loop-release
invariant-loop-release l = record {
  left : into_iter_len l.release-iterator ≡ length (into_iter_items l.release-iterator);
  count : l.number + length (into_iter_items l.release-iterator) ≡ length l.kept;
  same : indices_of l.indices.items ++ released (into_iter_items l.release-iterator) (drop l.number l.kept) ≡ released l.fn.releases.items l.kept;
}
