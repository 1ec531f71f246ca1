use Rattle.std.proofs.Common.{◌≡◌}
use Rattle.stanza.specs.Field.{value_named}
use Rattle.stanza.proofs.starts.ReadStanza.get.Given as goal

-- what is left of the fields gives the value that all of them give
abbrev pub invariant-loop-field : goal.invariant-loop-field
invariant-loop-field l =
    (goal.iterator-loop-field).can_next l.field-iterator ×
    (goal.iterator-loop-field).is_finite l.field-iterator ×
    (value_named l.name l.self.fields ≡ value_named l.name l.field-iterator)
