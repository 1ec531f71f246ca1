-- The names so far, and those of the records that are left, are the names of all.
use Rattle.std.proofs.Common.{◌≡◌, ◌++◌, drop}
use Rattle.plain.specs.Underway.{unconfigured_of}
use Rattle.fixed_order.proofs.waiting.keys_of.Given as goal

abbrev pub invariant-loop-entry : goal.invariant-loop-entry
invariant-loop-entry l = l.keys.items ++ unconfigured_of (drop l.entry-index l.db) ≡ unconfigured_of l.db
