-- No name before the index can be removed.
use Rattle.std.proofs.Common.{take}
use Rattle.std.specs.List.{All}
use Rattle.rules.specs.Legal.{Allowed}
use Rattle.rules.specs.declared.step.Step.TheVariants.{Remove}
use Rattle.fixed_order.proofs.removal.least_removable.Given as goal

abbrev pub invariant-loop-key : goal.invariant-loop-key
invariant-loop-key l = All (λ name. ¬ Allowed l.universe l.db (Remove name)) (take l.key-index l.keys)
