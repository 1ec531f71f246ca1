-- The literals so far, before those that are left, are those of all.
use Rattle.std.proofs.Common.{◌≡◌, drop}
use Rattle.named_lines.specs.Naming.{each_some, literal_named}
use Rattle.named_lines.proofs.EachLemmas.{some_behind}
use Rattle.named_lines.proofs.naming.literals_named.Given as goal

abbrev pub invariant-loop-literal : goal.invariant-loop-literal
invariant-loop-literal l = some_behind l.named.items (each_some (literal_named l.universe.pairs) (drop l.literal-index l.literals))
    ≡ each_some (literal_named l.universe.pairs) l.literals
