-- The hints so far are marked.
use Rattle.std.proofs.Common.{◌<◌, take}
use Rattle.std.specs.List.{Contains}
use Rattle.trim.specs.Marks.{MarksAlso}
use Rattle.trim.proofs.marks.mark_hints.Given as goal

abbrev pub invariant-loop-hint : goal.invariant-loop-hint
invariant-loop-hint l = MarksAlso (λ other. (other < l.number) × Contains (take l.hint-index l.hints) other) l.fn.marks.items l.marks.items
