use Rattle.std.proofs.Common.{◌∙◌, ◌+◌, ◌++◌, ap, append-nil, codes, drop, drop_of_length-le, sym}
use Rattle.command_line.proofs.WordLemmas.{left_at}
use Rattle.command_line.specs.Asked.{texts_by}
use Rattle.cli.specs.Places.{lines_of}
use Rattle.cli.proofs.LineLemmas.{one_line}
use Rattle.cli.proofs.arguments.lines.Goals as goal

pub loop-text-preserved : goal.loop-text-preserved
loop-text-preserved c =
    let texts = c.args.texts.now in
    let text = left_at (λ word. word.now) texts c.loop-text.text-index _ c.loop-text-test.true in
    let old = c.loop-text.all.items in
    one_line old c.extend_from_slice-in-loop-text.new.self.items _ _ (texts_by (drop (c.loop-text.text-index + 1) texts))
    (c.in_ok-extend_from_slice-2.ensures.items
    ∙ ap (λ t. t ++ codes "\n") (c.in_ok-extend_from_slice.ensures.items ∙ ap (λ b. old ++ b) c.as_bytes.ensures.value)) text
    ∙ c.loop-text.invariant

pub returns : goal.returns
returns c = sym (append-nil c.loop-text.all.items)
    ∙ sym (ap (λ ts. c.loop-text.all.items ++ lines_of (texts_by ts)) (drop_of_length-le c.args.texts.now c.loop-text-test.false))
    ∙ c.loop-text.invariant
