-- The objects of the literals so far.
use Rattle.std.proofs.Common.{◌≡◌, map, take}
use Rattle.json_answers.proofs.lines.literal_values.Given as goal
use Rattle.json_answers.specs.Pairs.{literal_data}
use Rattle.serde_json.specs.View.{view}

abbrev pub invariant-loop-literal : goal.invariant-loop-literal
invariant-loop-literal l = map view l.values.items ≡ map (literal_data l.universe) (take l.literal-index l.literals)
