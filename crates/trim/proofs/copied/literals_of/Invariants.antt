-- The copy has the literals so far.
use Rattle.std.proofs.Common.{◌≡◌, take}
use Rattle.trim.proofs.copied.literals_of.Given as goal

abbrev pub invariant-loop-literal : goal.invariant-loop-literal
invariant-loop-literal l = l.copy.items ≡ take l.literal-index l.literals
