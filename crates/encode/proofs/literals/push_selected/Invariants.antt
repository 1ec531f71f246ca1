-- The literals are those before with those of the numbers so far.
use Rattle.std.proofs.Common.{take, ◌⊎◌}
use Rattle.std.specs.Prelude.{◌↔◌}
use Rattle.std.specs.List.{Contains}
use Rattle.refutation.specs.declared.literal.Literal.{Literal}
use Rattle.encode.specs.Numbers.{SelectsOneOf}
use Rattle.encode.proofs.literals.push_selected.Given as goal

abbrev pub invariant-loop-number : goal.invariant-loop-number
invariant-loop-number l = (item : Literal) → Contains l.literals.items item ↔ (Contains l.fn.literals.items item
    ⊎ SelectsOneOf (take l.number-index l.numbers) item)
