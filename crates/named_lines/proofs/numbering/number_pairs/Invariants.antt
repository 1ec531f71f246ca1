-- The lines so far, before those that are left, are those of all.
use Rattle.std.proofs.Common.{◌≡◌, ◌+◌, drop}
use Rattle.named_lines.specs.Numbering.{numbered_from}
use Rattle.named_lines.proofs.EachLemmas.{lines_behind}
use Rattle.named_lines.proofs.numbering.number_pairs.Given as goal

abbrev pub invariant-loop-place : goal.invariant-loop-place
invariant-loop-place l = lines_behind l.lines.items (numbered_from l.universe.pairs (l.place + 1) (drop l.place l.refutation.lines))
    ≡ numbered_from l.universe.pairs 1 l.refutation.lines
