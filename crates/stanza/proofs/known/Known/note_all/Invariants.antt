-- The names before the count are in the table.
use Rattle.std.proofs.Common.{length, ◌-◌, map}
use Rattle.stanza.specs.Known.{AreKnown}
use Rattle.stanza.specs.Starts.{name_at}
use Rattle.stanza.proofs.known.Known.note_all.Given as goal

abbrev pub invariant-loop-self : goal.invariant-loop-self
invariant-loop-self l = AreKnown l.self (map (name_at l.done) l.starts)

abbrev pub decreases-loop-self : goal.decreases-loop-self
decreases-loop-self l = length l.starts - l.self.noted
