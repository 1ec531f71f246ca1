-- The premises of the pairs so far.
use Rattle.std.proofs.Common.{◌≡◌, take}
use Rattle.std.specs.List.{Any}
use Rattle.refutation.specs.declared.line.Premise.TheVariants as premise
use Rattle.encode.specs.Growing.{Grows}
use Rattle.encode.proofs.goals.add_on_each.Given as goal

abbrev pub invariant-loop-pair : goal.invariant-loop-pair
invariant-loop-pair l = Grows l.facts l.fn.encoding l.encoding (λ item. Any (λ pair. item ≡ premise.GoalOn l.number pair) (take l.pair-index l.pairs))
