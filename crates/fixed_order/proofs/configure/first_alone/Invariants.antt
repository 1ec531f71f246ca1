-- No name before the place passes alone.
use Rattle.std.proofs.Common.{take}
use Rattle.std.specs.List.{All}
use Rattle.fixed_order.specs.Alone.{PassesAlone}
use Rattle.fixed_order.proofs.configure.first_alone.Given as goal

abbrev pub invariant-loop-place : goal.invariant-loop-place
invariant-loop-place l = All (λ name. ¬ PassesAlone l.db name) (take l.place l.names)
