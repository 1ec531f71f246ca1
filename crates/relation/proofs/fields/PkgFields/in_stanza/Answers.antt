use Rattle.std.proofs.Common.{sym, ap, ◌∙◌}
use Rattle.relation.specs.PkgFields.{with_field}
use Rattle.relation.proofs.FieldsMore.{fields_more}
use Rattle.relation.proofs.fields.PkgFields.in_stanza.Goals as goal

pub loop-field-preserved : goal.loop-field-preserved
loop-field-preserved c =
    c.add.ensures ∙ ap (λ pkg_fields. with_field pkg_fields c.in-Some.field) c.loop-field.invariant
    ∙ sym (fields_more c.args.stanza.now.line c.loop-field.yielded c.in-Some.field)
