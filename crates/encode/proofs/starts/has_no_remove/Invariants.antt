-- None of the goals so far is that nothing is removed.
use Rattle.std.proofs.Common.{take}
use Rattle.std.specs.List.{Contains}
use Rattle.rules.specs.declared.goal.Goal.TheVariants as goal-of
use Rattle.encode.proofs.starts.has_no_remove.Given as goal

abbrev pub invariant-loop-asked : goal.invariant-loop-asked
invariant-loop-asked l = ¬ Contains (take l.asked-index l.goals) goal-of.NoRemove
