-- What the pairs so far are against.
use Rattle.std.proofs.Common.{◌+◌}
use Rattle.refutation.specs.Premise.{IsPremise}
use Rattle.encode.specs.Growing.{Grows, IsAgainstOf, IsOfFirst}
use Rattle.encode.proofs.against.add_all_against.Given as goal

abbrev pub invariant-loop-place : goal.invariant-loop-place
invariant-loop-place l = Grows l.facts l.fn.encoding l.encoding (IsOfFirst (λ place reason. IsPremise l.facts reason × IsAgainstOf (place + 1) reason) l.place)
