-- What was found so far is what is found among the fields so far.
use Rattle.std.proofs.Common.{◌≡◌}
use Rattle.status_text.specs.Walk.{record_fields_in}
use Rattle.status_text.proofs.walk.RecordFields.in_stanza.Given as goal

abbrev pub invariant-loop-field : goal.invariant-loop-field
invariant-loop-field l = l.record_fields ≡ record_fields_in l.stanza.line l.yielded
