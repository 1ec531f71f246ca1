-- The objects so far, and those of the steps that are left.
use Rattle.std.proofs.Common.{◌≡◌, ◌++◌, drop, map}
use Rattle.json_answers.proofs.steps.step_values.Given as goal
use Rattle.json_answers.specs.Steps.{steps_data}
use Rattle.serde_json.specs.View.{view}

abbrev pub invariant-loop-step : goal.invariant-loop-step
invariant-loop-step l = map view l.values.items ++ steps_data (drop l.step-index l.steps) l.rest ≡ steps_data l.steps l.archives
