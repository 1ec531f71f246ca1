-- The indices so far, before those of what is left, are those of all texts; there are no more than bytes.
use Rattle.std.proofs.Common.{◌≡◌, ◌+◌, ◌≤◌, length}
use Rattle.plantext.specs.Cut.{parts_at}
use Rattle.plantext.specs.declared.cut.TheConstants.{NEWLINE}
use Rattle.rules.specs.declared.limits.TheConstants.{TEXT_BYTES}
use Rattle.named_refutation.specs.Text.{cut_indices}
use Rattle.named_refutation.proofs.IndexLemmas.{put_indices}
use Rattle.named_refutation.proofs.read.read_texts.Given as goal

abbrev pub invariant-loop-text : goal.invariant-loop-text
invariant-loop-text l = record {
  same : put_indices l.indices.items (cut_indices (parts_at NEWLINE l.rest)) ≡ cut_indices (parts_at NEWLINE l.texts);
  within : length l.indices.items + length l.rest ≤ TEXT_BYTES;
}

abbrev pub decreases-loop-text : goal.decreases-loop-text
decreases-loop-text l = length l.rest
