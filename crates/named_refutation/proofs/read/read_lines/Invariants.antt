-- The lines so far, before those of what is left, are those of all texts.
use Rattle.std.proofs.Common.{◌≡◌, ◌≤◌, length}
use Rattle.plantext.specs.Cut.{parts_at}
use Rattle.plantext.specs.declared.cut.TheConstants.{NEWLINE}
use Rattle.refutation_text.specs.declared.limits.TheConstants.{LINES}
use Rattle.named_refutation.specs.Text.{put_lines, read_lines}
use Rattle.named_refutation.proofs.read.read_lines.Given as goal

abbrev pub invariant-loop-text : goal.invariant-loop-text
invariant-loop-text l = record {
  same : put_lines l.lines.items (read_lines l.before (length l.lines.items) (parts_at NEWLINE l.rest))
      ≡ read_lines l.before 0 (parts_at NEWLINE l.texts);
  within : length l.lines.items ≤ LINES;
}

abbrev pub decreases-loop-text : goal.decreases-loop-text
decreases-loop-text l = length l.rest
