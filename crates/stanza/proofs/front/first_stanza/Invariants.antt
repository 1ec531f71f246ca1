use Rattle.std.proofs.Common.{◌+◌, ◌-◌, length}
use Rattle.stanza.proofs.FrontLemmas.{Walks}
use Rattle.stanza.proofs.front.first_stanza.Given as goal

abbrev pub invariant-loop-offset : goal.invariant-loop-offset
invariant-loop-offset l = Walks l.form (l.before + 1) l.text l.offset l.lines l.end l.opened l.seen.slots

abbrev pub decreases-loop-offset : goal.decreases-loop-offset
decreases-loop-offset l = length l.text - l.offset
