-- The strings so far, and those of the parts that are left.
use Rattle.std.proofs.Common.{◌≡◌, ◌++◌, drop, map}
use Rattle.std.specs.List.{flat_map}
use Rattle.json_answers.proofs.sentences.line_values.Given as goal
use Rattle.json_answers.specs.TextLines.{line_data}
use Rattle.serde_json.specs.View.{view}

abbrev pub invariant-loop-part : goal.invariant-loop-part
invariant-loop-part l = map view l.lines.items ++ flat_map line_data (map (λ part. part.now) (drop l.part-index l.parts))
    ≡ flat_map line_data (map (λ part. part.now) l.parts)
