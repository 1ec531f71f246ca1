-- The names so far, and those of the facts that are left, are the names of all.
use Rattle.std.proofs.Common.{◌≡◌, drop, fold}
use Rattle.index.specs.Names.{with_name}
use Rattle.index.proofs.NameTable.{names_at, names_in}
use Rattle.universe_parts.proofs.StartNames.{name_of}
use Rattle.universe_parts.proofs.starts.names_of.Given as goal

abbrev pub invariant-loop-start : goal.invariant-loop-start
invariant-loop-start l = fold with_name (names_at l.names.keys) (names_in name_of (drop l.start-index l.starts)) ≡ names_in name_of l.starts
