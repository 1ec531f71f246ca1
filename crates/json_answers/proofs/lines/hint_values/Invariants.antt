-- The numbers of the hints so far.
use Rattle.std.proofs.Common.{◌≡◌, map, take}
use Rattle.json_answers.proofs.lines.hint_values.Given as goal
use Rattle.json_answers.specs.Lines.{hint_data}
use Rattle.serde_json.specs.View.{view}

abbrev pub invariant-loop-hint : goal.invariant-loop-hint
invariant-loop-hint l = map view l.values.items ≡ map hint_data (take l.hint-index l.hints)
