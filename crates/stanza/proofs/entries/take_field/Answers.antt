-- The field's line and its continuations are cut off, and the fields after them are those of the rest.
use Rattle.stanza.proofs.FieldsLemmas.{field_taken}
use Rattle.stanza.proofs.entries.take_field.Goals as goal

pub returns-clause-taken : goal.returns-clause-taken
returns-clause-taken c =
    field_taken c.args.form c.args.before c.skip_to_field-skipped.result.1 c.continuations-len.result.0 c.continuations-len.result.1
    c.args.text.now c.skip_to_field-skipped.result.0.now c.cut_line.result.0.now c.cut_line.result.1.now
    c.split_at.result.0.now c.split_at.result.1.now c.name_of.result.now c.value_of.result.now
    c.skip_to_field-skipped.ensures.skipped c.skip_to_field-skipped.ensures.field c.cut_line.ensures c.continuations-len.ensures
    c.split_at.ensures.front c.split_at.ensures.back c.name_of.ensures c.value_of.ensures
