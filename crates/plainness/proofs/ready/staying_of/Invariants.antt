-- What stays so far is what stays of the members so far.
use Rattle.std.proofs.Common.{take}
use Rattle.plainness.specs.Parts.{AreStaying}
use Rattle.plainness.proofs.ReadyLemmas.{lent}
use Rattle.plainness.proofs.ready.staying_of.Given as goal

abbrev pub invariant-loop-member : goal.invariant-loop-member
invariant-loop-member l = AreStaying l.start (lent (take l.member-index l.members)) (lent l.staying.items)
