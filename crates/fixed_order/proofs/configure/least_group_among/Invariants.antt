-- The names from the index on are left to be looked at, and no part of the group passes, if that was said.
use Rattle.std.proofs.Common.{◌≡◌, drop, true}
use Rattle.rules.specs.Configure.{IsIndivisible}
use Rattle.fixed_order.specs.Walked.{IsWalkedTo}
use Rattle.fixed_order.proofs.configure.least_group_among.Given as goal

abbrev pub invariant-loop-key : goal.invariant-loop-key
invariant-loop-key l = record {
  walked : IsWalkedTo l.db (drop l.key-index l.down) l.walk.kept.items l.walk.group.items;
  whole : l.whole ≡ true → IsIndivisible l.db l.walk.group.items;
}
