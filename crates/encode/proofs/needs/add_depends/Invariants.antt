-- What the clauses so far say.
use Rattle.std.proofs.Common.{◌≡◌, ◌+◌}
use Rattle.refutation.specs.declared.line.Premise.TheVariants as premise
use Rattle.encode.specs.Growing.{Grows, IsOfFirst}
use Rattle.encode.proofs.needs.add_depends.Given as goal

abbrev pub invariant-loop-place : goal.invariant-loop-place
invariant-loop-place l = Grows l.facts l.fn.encoding l.encoding (IsOfFirst (λ place reason. reason ≡ premise.Depends l.number (place + 1)) l.place)
