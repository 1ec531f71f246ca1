-- What isn't false of the literals so far.
use Rattle.std.proofs.Common.{take}
use Rattle.std.specs.List.{Contains}
use Rattle.refutecheck.specs.Falses.{IsFalse}
use Rattle.refutecheck.specs.Open.{IsOpenOf}
use Rattle.refutecheck.proofs.open.open_of.Given as goal

abbrev pub invariant-loop-literal : goal.invariant-loop-literal
invariant-loop-literal l = IsOpenOf (IsFalse l.falses) (Contains (take l.literal-index l.clause)) l.so_far
