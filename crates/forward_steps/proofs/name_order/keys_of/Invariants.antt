-- The keys so far are the names before the index.
use Rattle.std.proofs.Common.{◌≡◌, take}
use Rattle.forward_steps.proofs.name_order.keys_of.Given as goal

abbrev pub invariant-loop-name : goal.invariant-loop-name
invariant-loop-name l = l.keys.items ≡ take l.name-index l.names
