use Rattle.std.proofs.Common.{◌≡◌, ◌++◌, map}
use Rattle.relation.specs.PackageStanza.{field_of}
use Rattle.status.specs.Written.{fields_of, rest_of}
use Rattle.status_text.specs.Spelling.{fields_text}
use Rattle.status.proofs.write.push_rest.Given as goal

-- what was written, before what is left to be written, is the whole
abbrev pub invariant-loop-field : goal.invariant-loop-field
invariant-loop-field l =
    (goal.iterator-loop-field).can_next l.field-iterator ×
    (goal.iterator-loop-field).is_finite l.field-iterator ×
    (l.out.items ++ fields_text (rest_of l.left_out l.config_version (map field_of l.field-iterator)) ≡ l.initial.out.items ++ fields_text (rest_of l.left_out l.config_version (fields_of l.stanza)))
