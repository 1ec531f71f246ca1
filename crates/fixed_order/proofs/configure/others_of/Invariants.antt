-- The names so far, and the others of what is left, are all the others.
use Rattle.std.proofs.Common.{◌≡◌, ◌++◌, drop}
use Rattle.rules.specs.Configure.{others_of}
use Rattle.fixed_order.proofs.configure.others_of.Given as goal

abbrev pub invariant-loop-other : goal.invariant-loop-other
invariant-loop-other l = l.others.items ++ others_of l.name (drop l.other-index l.names) ≡ others_of l.name l.names
