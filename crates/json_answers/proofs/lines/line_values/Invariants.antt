-- The objects of the lines so far.
use Rattle.std.proofs.Common.{map, take}
use Rattle.json_answers.proofs.lines.line_values.Given as goal
use Rattle.json_answers.specs.Lines.{AreLineData}
use Rattle.serde_json.specs.View.{view}

abbrev pub invariant-loop-line : goal.invariant-loop-line
invariant-loop-line l = AreLineData l.universe (take l.line-index l.lines) (map view l.values.items)
