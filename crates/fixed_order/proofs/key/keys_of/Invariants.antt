-- The keys so far are those of the names before the index.
use Rattle.std.proofs.Common.{◌≡◌, take}
use Rattle.fixed_order.proofs.key.keys_of.Given as goal

abbrev pub invariant-loop-name : goal.invariant-loop-name
invariant-loop-name l = l.keys.items ≡ take l.name-index l.names
