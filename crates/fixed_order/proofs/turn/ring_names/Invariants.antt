-- The rings so far, and those of what is left, are all of them.
use Rattle.std.proofs.Common.{◌≡◌, ◌++◌, drop}
use Rattle.std.specs.List.{filter}
use Rattle.fixed_order.specs.Turn.{is_ringed}
use Rattle.fixed_order.proofs.turn.ring_names.Given as goal

abbrev pub invariant-loop-name : goal.invariant-loop-name
invariant-loop-name l = l.rings.items ++ filter (is_ringed l.ranks) (drop l.name-index l.names) ≡ filter (is_ringed l.ranks) l.names
