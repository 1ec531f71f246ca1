-- The places so far are of all that ask for a name before the index.
use Rattle.std.proofs.Common.{take}
use Rattle.std.specs.List.{All, Contains}
use Rattle.fixed_order.specs.Askers.{asking_in}
use Rattle.fixed_order.proofs.askers.Askers.of_group.Given as goal

abbrev pub invariant-loop-name : goal.invariant-loop-name
invariant-loop-name l = All (λ name. All (Contains l.places.items) (asking_in l.self name)) (take l.name-index l.group)
