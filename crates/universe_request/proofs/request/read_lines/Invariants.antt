-- The goals so far, before those of what is left, are those of all lines.
use Rattle.std.proofs.Common.{◌≡◌, ◌+◌, ◌≤◌, length}
use Rattle.rules.specs.declared.limits.TheConstants.{GOALS}
use Rattle.universe_request.specs.Cut.{len_left, lines_left, lines_of}
use Rattle.universe_request.specs.Request.{put_goals, read_lines}
use Rattle.universe_request.proofs.request.read_lines.Given as goal

abbrev pub invariant-loop-left : goal.invariant-loop-left
invariant-loop-left l = record {
  same : put_goals l.goals.items (read_lines l.arch (l.line + 1) (length l.goals.items + 1) (lines_left l.left))
      ≡ read_lines l.arch 1 1 (lines_of l.text);
  counted : length l.goals.items ≤ GOALS;
  passed : l.line + len_left l.left ≤ length l.text + 1;
}

abbrev pub decreases-loop-left : goal.decreases-loop-left
decreases-loop-left l = len_left l.left
