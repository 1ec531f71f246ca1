use Rattle.std.proofs.Common.{◌≡◌}
use Rattle.relation.specs.PackageStanza.{is_essential}
use Rattle.relation.proofs.package_stanza.is_essential.Given as goal

-- what is left of the fields answers for all of them
abbrev pub invariant-loop-field : goal.invariant-loop-field
invariant-loop-field l =
    (goal.iterator-loop-field).can_next l.field-iterator ×
    (goal.iterator-loop-field).is_finite l.field-iterator ×
    (is_essential l.stanza.fields ≡ is_essential l.field-iterator)
