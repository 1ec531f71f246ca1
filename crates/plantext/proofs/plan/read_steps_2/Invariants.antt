-- The steps so far, before those of what is left, are those of all lines.
use Rattle.std.proofs.Common.{◌≡◌, ◌≤◌, length}
use Rattle.rules.specs.declared.limits.TheConstants.{STEPS}
use Rattle.plantext.specs.Cut.{parts_at}
use Rattle.plantext.specs.Plan.{put_steps, read_steps_2}
use Rattle.plantext.specs.declared.cut.TheConstants.{NEWLINE}
use Rattle.plantext.proofs.plan.read_steps_2.Given as goal

abbrev pub invariant-loop-line : goal.invariant-loop-line
invariant-loop-line l = record {
  same : put_steps l.steps.items (read_steps_2 (length l.steps.items) (parts_at NEWLINE l.rest))
      ≡ read_steps_2 0 (parts_at NEWLINE l.lines);
  within : length l.steps.items ≤ STEPS;
}

abbrev pub decreases-loop-line : goal.decreases-loop-line
decreases-loop-line l = length l.rest
