use Rattle.std.proofs.Common.{sym, ap, ◌∙◌}
use Rattle.index.specs.Walk.{with_field}
use Rattle.index.proofs.WalkLemmas.{found_more}
use Rattle.index.proofs.walk.IndexFields.in_stanza.Goals as goal

pub loop-field-preserved : goal.loop-field-preserved
loop-field-preserved c =
    c.add.ensures ∙ ap (λ index_fields. with_field index_fields c.in-Some.field) c.loop-field.invariant
    ∙ sym (found_more c.args.stanza.now.line c.loop-field.yielded c.in-Some.field)
