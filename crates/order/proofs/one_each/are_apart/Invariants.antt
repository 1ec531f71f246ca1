-- The names in the table, and those that are left, make the table of all.
use Rattle.std.proofs.Common.{◌≡◌, [], drop, fold}
use Rattle.index.specs.Names.{with_name}
use Rattle.index.proofs.NameTable.{names_at}
use Rattle.order.proofs.one_each.are_apart.Given as goal

abbrev pub invariant-loop-name : goal.invariant-loop-name
invariant-loop-name l = fold with_name (names_at l.table.keys) (names_at (drop l.name-index l.names)) ≡ fold with_name [] (names_at l.names)
