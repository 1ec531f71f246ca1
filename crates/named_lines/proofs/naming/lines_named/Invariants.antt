-- The lines so far, before those that are left, are those of all.
use Rattle.std.proofs.Common.{◌≡◌, drop}
use Rattle.named_lines.specs.Naming.{each_some, line_named}
use Rattle.named_lines.proofs.EachLemmas.{some_behind}
use Rattle.named_lines.proofs.naming.lines_named.Given as goal

abbrev pub invariant-loop-line : goal.invariant-loop-line
invariant-loop-line l = some_behind l.named.items (each_some (line_named l.universe.pairs) (drop l.line-index l.lines))
    ≡ each_some (line_named l.universe.pairs) l.lines
