-- The pairs so far, and those that are picked of what is left, are all that are picked.
use Rattle.std.proofs.Common.{◌≡◌, ◌+◌, ◌++◌, drop}
use Rattle.rules.specs.Sound.{selected_from}
use Rattle.fixed_order.specs.Selection.{marked, pkgs_of}
use Rattle.fixed_order.proofs.selection.marked_pairs.Given as goal

abbrev pub invariant-loop-place : goal.invariant-loop-place
invariant-loop-place l = pkgs_of l.chosen.items ++ selected_from (l.place + 1) (marked l.marks) (drop l.place l.pairs)
    ≡ selected_from 1 (marked l.marks) l.pairs
