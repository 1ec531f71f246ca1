-- The literals so far, before those that are left, are those of all.
use Rattle.std.proofs.Common.{◌≡◌, drop}
use Rattle.named_lines.specs.Numbering.{each_ok, literal_numbered}
use Rattle.named_lines.proofs.EachLemmas.{ok_behind}
use Rattle.named_lines.proofs.numbering.literals_numbered.Given as goal

abbrev pub invariant-loop-literal : goal.invariant-loop-literal
invariant-loop-literal l = ok_behind l.numbered.items (each_ok (literal_numbered l.universe.pairs) (drop l.literal-index l.literals))
    ≡ each_ok (literal_numbered l.universe.pairs) l.literals
