-- What the pairs so far need.
use Rattle.std.proofs.Common.{◌+◌}
use Rattle.refutation.specs.Premise.{IsPremise}
use Rattle.encode.specs.Growing.{Grows, IsNeedOf, IsOfFirst}
use Rattle.encode.proofs.needs.add_needs.Given as goal

abbrev pub invariant-loop-place : goal.invariant-loop-place
invariant-loop-place l = Grows l.facts l.fn.encoding l.encoding (IsOfFirst (λ place reason. IsPremise l.facts reason × IsNeedOf (place + 1) reason) l.place)
