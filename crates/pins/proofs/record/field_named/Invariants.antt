-- What is left of the fields gives the field that all of them give.
use Rattle.std.proofs.Common.{◌≡◌}
use Rattle.pins.specs.Record.{field_named}
use Rattle.pins.proofs.record.field_named.Given as goal

abbrev pub invariant-loop-field : goal.invariant-loop-field
invariant-loop-field l =
    (goal.iterator-loop-field).can_next l.field-iterator ×
    (goal.iterator-loop-field).is_finite l.field-iterator ×
    (field_named l.name l.stanza.fields ≡ field_named l.name l.field-iterator)
