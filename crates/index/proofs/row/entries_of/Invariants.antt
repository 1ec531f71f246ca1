-- The packages of the rows so far.
use Rattle.std.proofs.Common.{◌≡◌, take}
use Rattle.index.specs.Row.{packages_at}
use Rattle.index.proofs.row.entries_of.Given as goal

abbrev pub invariant-loop-row : goal.invariant-loop-row
invariant-loop-row l = l.entries.items ≡ packages_at l.kept.arch.items l.kept.number l.kept.arena.items (take l.row-index l.rows)
