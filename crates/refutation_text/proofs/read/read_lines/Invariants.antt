-- The lines so far, before those of what is left, are those of all lines.
use Rattle.std.proofs.Common.{◌≡◌, ◌+◌, ◌≤◌, length}
use Rattle.refutation_text.specs.declared.limits.TheConstants.{LINES}
use Rattle.plantext.specs.Cut.{parts_at}
use Rattle.refutation_text.specs.Text.{put_lines, read_lines}
use Rattle.plantext.specs.declared.cut.TheConstants.{NEWLINE}
use Rattle.refutation_text.proofs.read.read_lines.Given as goal

abbrev pub invariant-loop-text : goal.invariant-loop-text
invariant-loop-text l = record {
  same : put_lines l.lines.items (read_lines (length l.lines.items + 1) (parts_at NEWLINE l.rest))
      ≡ read_lines 1 (parts_at NEWLINE l.texts);
  within : length l.lines.items ≤ LINES;
}

abbrev pub decreases-loop-text : goal.decreases-loop-text
decreases-loop-text l = length l.rest
