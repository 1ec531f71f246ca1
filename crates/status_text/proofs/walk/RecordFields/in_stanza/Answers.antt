use Rattle.std.proofs.Common.{sym, ap, ◌∙◌}
use Rattle.status_text.specs.Walk.{with_field}
use Rattle.status_text.proofs.WalkLemmas.{found_more}
use Rattle.status_text.proofs.walk.RecordFields.in_stanza.Goals as goal

pub loop-field-preserved : goal.loop-field-preserved
loop-field-preserved c =
    c.add.ensures ∙ ap (λ record_fields. with_field record_fields c.in-Some.field) c.loop-field.invariant
    ∙ sym (found_more c.args.stanza.now.line c.loop-field.yielded c.in-Some.field)
