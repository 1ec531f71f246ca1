use Rattle.std.proofs.Common.{◌≡◌}
use Rattle.std.specs.List.{list_any}
use Rattle.stanza.specs.Line.{lines_of}
use Rattle.stanza.specs.Field.{FieldText, fields_of, same_name}
use Rattle.stanza.proofs.front.has_field.Given as goal

-- what is left of the fields answers for all of them
abbrev pub invariant-loop-field : goal.invariant-loop-field
invariant-loop-field l =
    (goal.iterator-loop-field).can_next l.field-iterator ×
    (goal.iterator-loop-field).is_finite l.field-iterator ×
    (list_any (λ (field : FieldText). same_name field.name l.name) (fields_of l.fn.form 1 (lines_of l.done)) ≡ list_any (λ (field : FieldText). same_name field.name l.name) l.field-iterator)
