use Rattle.std.proofs.Common.{length}
use Rattle.stanza.specs.Front.{SkipsGap}
use Rattle.stanza.proofs.walk.skip_gap.Given as goal

abbrev pub invariant-loop-form : goal.invariant-loop-form
invariant-loop-form l = SkipsGap l.form l.text l.rest l.skipped

abbrev pub decreases-loop-form : goal.decreases-loop-form
decreases-loop-form l = length l.rest
