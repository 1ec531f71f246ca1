-- The string of one more part.
use Rattle.std.proofs.Common.{◌∙◌, ◌+◌, ◌++◌, ap, append-nil, drop, drop_of_length-le, map, sym}
use Rattle.std.specs.List.{flat_map}
use Rattle.json_answers.proofs.ListLemmas.{one_part}
use Rattle.json_answers.proofs.sentences.line_values.Goals as goal
use Rattle.json_answers.specs.TextLines.{line_data}
use Rattle.json_answers.proofs.ListLemmas.{left_at}
use Rattle.serde_json.specs.View.{view}

pub loop-part-preserved : goal.loop-part-preserved
loop-part-preserved c =
    let parts = c.args.parts.now in
    let part = left_at (λ part. part.now) parts c.loop-part.part-index _ c.loop-part-test.true in
    one_part (map view c.loop-part.lines.items) (map view c.push_line.new.lines.items) _ _
    (map (λ part. part.now) (drop (c.loop-part.part-index + 1) parts)) c.in_ok-push_line.ensures part
    ∙ c.loop-part.invariant

pub returns : goal.returns
returns c =
    let made = map view c.loop-part.lines.items in
    sym (append-nil made)
    ∙ sym (ap (λ ps. made ++ flat_map line_data (map (λ part. part.now) ps)) (drop_of_length-le c.args.parts.now c.loop-part-test.false))
    ∙ c.loop-part.invariant
