-- The names copied so far are those before the index.
use Rattle.std.proofs.Common.{◌≡◌, take}
use Rattle.rules.proofs.name.Names.try_copy.Given as goal

abbrev pub invariant-loop-name : goal.invariant-loop-name
invariant-loop-name l = l.names.items ≡ take l.name-index l.name-items
