-- The first line and the continuations behind it are one field.
use Rattle.std.proofs.Common.{sym, ap, ◌∙◌, ◌++◌}
use Rattle.stanza.specs.Line.{lines_of}
use Rattle.stanza.proofs.FieldsLemmas.{take-behind}
use Rattle.stanza.proofs.WithinLemmas.{front-field}
use Rattle.stanza.proofs.starts.field_front.Goals as goal

pub returns-clause-alone : goal.returns-clause-alone
returns-clause-alone c =
    let line = c.cut_line.result.0.now in
    let after = c.cut_line.result.1.now in
    let len = c.continuations-len.result.0 in
    let is = c.split_at.ensures.front ∙ take-behind c.args.text.now line after len c.cut_line.ensures.joined ∙ ap (λ x. line ++ x) (sym c.continuations-len.ensures.more) in
    (front-field c.args.text.now line (lines_of after) c.split_at.result.0.now c.cut_line.ensures.first is).0

pub returns-clause-field : goal.returns-clause-field
returns-clause-field c =
    let line = c.cut_line.result.0.now in
    let after = c.cut_line.result.1.now in
    let len = c.continuations-len.result.0 in
    let is = c.split_at.ensures.front ∙ take-behind c.args.text.now line after len c.cut_line.ensures.joined ∙ ap (λ x. line ++ x) (sym c.continuations-len.ensures.more) in
    (front-field c.args.text.now line (lines_of after) c.split_at.result.0.now c.cut_line.ensures.first is).1
