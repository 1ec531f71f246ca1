-- The literals so far are false.
use Rattle.std.proofs.Common.{take}
use Rattle.std.specs.Prelude.{◌↔◌}
use Rattle.std.specs.List.{Contains}
use Rattle.refutation.specs.declared.literal.Literal.{Literal}
use Rattle.refutecheck.specs.Falses.{IsFalse}
use Rattle.refutecheck.proofs.falses.Falses.of.Given as goal

abbrev pub invariant-loop-literal : goal.invariant-loop-literal
invariant-loop-literal l = (literal : Literal) → IsFalse l.falses literal ↔ Contains (take l.literal-index l.literals) literal
