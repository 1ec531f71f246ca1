-- The strings of the parts are those of the lines.
use Rattle.std.proofs.Common.{◌∙◌, List, ap, map, ℕ}
use Rattle.std.specs.List.{flat_map}
use Rattle.json_answers.proofs.sentences.lines_value.Goals as goal
use Rattle.json_answers.specs.TextLines.{line_data}
use Rattle.serde_json.specs.Data.{Data, array}
use Rattle.serde_json.specs.View.{items_of}

pub returns : goal.returns
returns c =
    c.from.ensures ∙ ap (λ (ds : List Data). array (items_of ds)) (c.in_ok-lines.ensures
    ∙ ap (λ (lines : List (List ℕ)). flat_map line_data lines) (ap (map (λ part. part.now)) c.as_slice.ensures.value ∙ c.in_ok-parts.ensures))
