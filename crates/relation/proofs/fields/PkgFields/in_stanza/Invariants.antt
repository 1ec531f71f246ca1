-- What was found so far is what is found among the fields so far.
use Rattle.std.proofs.Common.{◌≡◌}
use Rattle.relation.specs.PkgFields.{fields_in}
use Rattle.relation.proofs.fields.PkgFields.in_stanza.Given as goal

abbrev pub invariant-loop-field : goal.invariant-loop-field
invariant-loop-field l = l.pkg_fields ≡ fields_in l.stanza.line l.yielded
