-- What was found so far is what is found among the fields so far.
use Rattle.std.proofs.Common.{◌≡◌}
use Rattle.index.specs.Walk.{index_fields_in}
use Rattle.index.proofs.walk.IndexFields.in_stanza.Given as goal

abbrev pub invariant-loop-field : goal.invariant-loop-field
invariant-loop-field l = l.index_fields ≡ index_fields_in l.stanza.line l.yielded
