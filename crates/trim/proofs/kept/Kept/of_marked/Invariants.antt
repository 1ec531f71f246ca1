-- The marked lines so far are kept.
use Rattle.trim.specs.Kept.{AreKept}
use Rattle.trim.proofs.kept.Kept.of_marked.Given as goal

abbrev pub invariant-loop-place : goal.invariant-loop-place
invariant-loop-place l = AreKept l.lines l.marks l.place l.kept.numbers.items l.kept.lines.items
