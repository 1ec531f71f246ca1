-- The lines before the offset stand between stanzas.
use Rattle.std.proofs.Common.{ℕ, ◌-◌, length}
use Rattle.stanza.specs.Streamed.{SkipsAhead}
use Rattle.stanza.proofs.ahead.gap_ahead.Given as goal

abbrev pub invariant-loop-offset : goal.invariant-loop-offset
invariant-loop-offset l = (n : ℕ) → SkipsAhead l.is_over l.form n l.text l.offset l.lines

abbrev pub decreases-loop-offset : goal.decreases-loop-offset
decreases-loop-offset l = length l.text - l.offset
