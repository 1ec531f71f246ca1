-- The line that was found is one of the lines.
use Rattle.std.proofs.Common.{subst, sym}
use Rattle.std.specs.List.{Contains}
use Rattle.refutation.specs.declared.line.Line.{Line}
use Rattle.refutation_sentences.proofs.member.has_premise.Goals as goal

pub returns-then-is_premise : goal.returns-then-is_premise
returns-then-is_premise c = λ is.
    let here : Contains c.args.lines.now c.line-item.result = (c.loop-line.line-index, c.loop-line-test.true, sym c.line-item.is) in
    subst (λ (line : Line). Contains c.args.lines.now line) (c.is_premise.ensures c.if-is_premise.true) here
