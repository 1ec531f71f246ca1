-- The lines so far, and those of the goals that are left.
use Rattle.std.proofs.Common.{◌≡◌, ◌++◌, drop, map}
use Rattle.std.specs.List.{flat_map}
use Rattle.questions.proofs.request.lines_of.Given as goal
use Rattle.questions.specs.Question.{line_of}

abbrev pub invariant-loop-goal : goal.invariant-loop-goal
invariant-loop-goal l = l.text.items ++ flat_map line_of (map (λ goal. goal.now) (drop l.goal-index l.goals))
    ≡ flat_map line_of (map (λ goal. goal.now) l.goals)
