-- The pairs so far, and those of what is left that don't stand, are all that don't.
use Rattle.std.proofs.Common.{◌≡◌, ◌++◌, drop}
use Rattle.std.specs.List.{filter}
use Rattle.fixed_order.specs.Selection.{is_away, pkgs_of}
use Rattle.fixed_order.proofs.unpack.to_unpack.Given as goal

abbrev pub invariant-loop-pair : goal.invariant-loop-pair
invariant-loop-pair l = pkgs_of l.away.items ++ filter (is_away l.start) (pkgs_of (drop l.pair-index l.pairs))
    ≡ filter (is_away l.start) (pkgs_of l.pairs)
