-- The names so far, and those of the goals that are left, are the names of all.
use Rattle.std.proofs.Common.{◌≡◌, [], drop, fold}
use Rattle.plainness.specs.Names.{with_purge}
use Rattle.plainness.proofs.names.Names.put_purges.Given as goal

abbrev pub invariant-loop-asked : goal.invariant-loop-asked
invariant-loop-asked l = fold with_purge l.names (drop l.asked-index l.goals) ≡ fold with_purge [] l.goals
