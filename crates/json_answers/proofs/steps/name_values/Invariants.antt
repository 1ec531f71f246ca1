-- The strings of the names so far.
use Rattle.std.proofs.Common.{◌≡◌, map, take}
use Rattle.json_answers.proofs.steps.name_values.Given as goal
use Rattle.json_answers.specs.Document.{text_data}
use Rattle.serde_json.specs.View.{view}

abbrev pub invariant-loop-name : goal.invariant-loop-name
invariant-loop-name l = map view l.values.items ≡ map text_data (take l.name-index l.names)
