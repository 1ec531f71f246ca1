use Rattle.std.proofs.Common.{length}
use Rattle.stanza.specs.Cut.{SkipsLines}
use Rattle.stanza.proofs.entries.skip_to_field.Given as goal

abbrev pub invariant-loop-form : goal.invariant-loop-form
invariant-loop-form l = SkipsLines l.form l.text l.rest l.skipped

abbrev pub decreases-loop-form : goal.decreases-loop-form
decreases-loop-form l = length l.rest
