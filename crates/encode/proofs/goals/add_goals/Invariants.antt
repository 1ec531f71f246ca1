-- What the goals so far ask for.
use Rattle.std.proofs.Common.{◌+◌}
use Rattle.refutation.specs.Premise.{IsPremise}
use Rattle.encode.specs.Growing.{Grows, IsOfFirst, IsOfGoal}
use Rattle.encode.proofs.goals.add_goals.Given as goal

abbrev pub invariant-loop-place : goal.invariant-loop-place
invariant-loop-place l = Grows l.facts l.fn.encoding l.encoding (IsOfFirst (λ place reason. IsPremise l.facts reason × IsOfGoal (place + 1) reason) l.place)
