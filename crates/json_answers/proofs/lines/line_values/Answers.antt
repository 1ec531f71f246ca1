-- The object of one more line.
use Rattle.std.proofs.Common.{◌≡◌, ◌∙◌, arith, length, map, sym}
use Rattle.std.proofs.lemmas.List.{length-map}
use Rattle.json_answers.proofs.ListLemmas.{numbered_more}
use Rattle.json_answers.proofs.lines.line_values.Goals as goal
use Rattle.json_answers.specs.Lines.{IsLineData}
use Rattle.serde_json.specs.View.{view}

pub loop-line-preserved : goal.loop-line-preserved
loop-line-preserved c =
    let values = c.loop-line.values.items in
    let count : c.len.result ≡ length values = omega arith in
    numbered_more (IsLineData c.args.universe.now) c.args.lines.now (map view values) (map view c.push_value.new.values.items)
    c.loop-line.line-index c.line-item.result (view c.in_ok-value.value) c.len.result c.loop-line-test.true c.line-item.is
    c.loop-line.invariant (count ∙ sym (length-map values view)) c.in_ok-value.ensures c.in_ok-push_value.ensures
