-- The names so far are the keys before the index.
use Rattle.std.proofs.Common.{◌≡◌, take}
use Rattle.fixed_order.proofs.waiting.names_of.Given as goal

abbrev pub invariant-loop-key : goal.invariant-loop-key
invariant-loop-key l = l.names.items ≡ take l.key-index l.keys
