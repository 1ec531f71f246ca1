-- The literals are those of the atoms so far.
use Rattle.std.proofs.Common.{take}
use Rattle.std.specs.Prelude.{◌↔◌}
use Rattle.std.specs.List.{Contains}
use Rattle.refutation.specs.declared.literal.Literal.{Literal}
use Rattle.refutecheck.specs.Answer.{IsOutOrMatching}
use Rattle.refutecheck.proofs.needs.out_or_matching.Given as goal

abbrev pub invariant-loop-atom : goal.invariant-loop-atom
invariant-loop-atom l = (disjunct : Literal)
    → Contains l.literals.items disjunct ↔ IsOutOrMatching l.premises l.number (take l.atom-index l.atoms) disjunct
