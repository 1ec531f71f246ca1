-- The steps so far are those of the pairs before the index.
use Rattle.std.proofs.Common.{◌≡◌, map, take}
use Rattle.plain.specs.Order.{unpack_of}
use Rattle.fixed_order.specs.Selection.{pkgs_of}
use Rattle.fixed_order.proofs.unpack.unpacks_of.Given as goal

abbrev pub invariant-loop-pair : goal.invariant-loop-pair
invariant-loop-pair l = l.steps.items ≡ map unpack_of (pkgs_of (take l.pair-index l.pairs))
