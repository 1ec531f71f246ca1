-- The lines before the offset are read.
use Rattle.std.proofs.Common.{◌+◌, ◌-◌, length}
use Rattle.stanza.proofs.AheadLemmas.{Reads}
use Rattle.stanza.proofs.ahead.stanza_ahead.Given as goal

abbrev pub invariant-loop-offset : goal.invariant-loop-offset
invariant-loop-offset l = Reads l.is_over l.form (l.before + 1) l.text l.offset l.lines l.end l.opened l.known l.starts.items

abbrev pub decreases-loop-offset : goal.decreases-loop-offset
decreases-loop-offset l = length l.text - l.offset
