-- What the lines behind this number need is marked.
use Rattle.std.proofs.Common.{◌≤◌, length}
use Rattle.trim.specs.Marks.{AreMarks}
use Rattle.trim.proofs.marks.marks_of.Given as goal

abbrev pub invariant-loop-number : goal.invariant-loop-number
invariant-loop-number l = AreMarks l.lines l.marks.items l.number × (l.number ≤ length l.lines)

abbrev pub decreases-loop-number : goal.decreases-loop-number
decreases-loop-number l = l.number
