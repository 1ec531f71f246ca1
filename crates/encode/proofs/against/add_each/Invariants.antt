-- The premises of the others so far.
use Rattle.std.proofs.Common.{◌≡◌, take}
use Rattle.std.specs.List.{Any}
use Rattle.encode.specs.Against.{premise_against}
use Rattle.encode.specs.Growing.{Grows}
use Rattle.encode.proofs.against.add_each.Given as goal

abbrev pub invariant-loop-other : goal.invariant-loop-other
invariant-loop-other l = Grows l.facts l.fn.encoding l.encoding (λ reason. Any (λ other. reason ≡ premise_against l.against l.number other) (take l.other-index l.others))
