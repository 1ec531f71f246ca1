-- The lines of the steps so far stand behind the text, and they are spelled as steps are.
use Rattle.std.proofs.Common.{◌≡◌, ◌++◌, true, take}
use Rattle.std.specs.List.{flat_map, list_all}
use Rattle.plantext.specs.StepLine.{is_spelled, step_line}
use Rattle.plantext.proofs.write.push_steps.Given as goal

abbrev pub invariant-loop-step : goal.invariant-loop-step
invariant-loop-step l = record {
  written : l.text.items ≡ l.initial.text.items ++ flat_map step_line (take l.step-index l.steps);
  valid : list_all is_spelled (take l.step-index l.steps) ≡ true;
}
