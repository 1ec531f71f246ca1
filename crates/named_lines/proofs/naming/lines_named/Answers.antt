-- A line is named before those that are left.
use Rattle.std.proofs.Common.{◌≡◌, ◌∙◌, ◌+◌, ◌∷◌, Option, Some, drop, sym, ap}
use Rattle.std.proofs.lemmas.List.{drop_more}
use Rattle.refutation.specs.declared.line.Line.{Line}
use Rattle.named_refutation.specs.declared.named.NamedLine.{NamedLine}
use Rattle.named_lines.specs.Naming.{line_named}
use Rattle.named_lines.proofs.EachLemmas.{some_more}
use Rattle.named_lines.proofs.naming.lines_named.Goals as goal

pub loop-line-preserved : goal.loop-line-preserved
loop-line-preserved c =
    let lines = c.args.lines.now in
    let i = c.loop-line.line-index in
    let item = c.line-item.result in
    let give : Line → Option NamedLine = line_named c.args.universe.now.pairs in
    let first : drop i lines ≡ item ∷ drop (i + 1) lines =
    drop_more lines i item c.loop-line-test.true ∙ ap (λ (here : Line). here ∷ drop (i + 1) lines) (sym c.line-item.is) in
    let is : give item ≡ Some c.in-Some.answer = sym c.in_ok-answer.ensures ∙ c.in-Some.is in
    rw c.in_ok-push.ensures.items
    (some_more give c.loop-line.named.items item c.in-Some.answer (drop i lines) (drop (i + 1) lines) first is ∙ c.loop-line.invariant)
