-- The steps so far are those of the names before the index.
use Rattle.std.proofs.Common.{◌≡◌, map, take}
use Rattle.rules.specs.declared.step.Step.TheVariants.{Purge}
use Rattle.fixed_order.proofs.purge.steps_of.Given as goal

abbrev pub invariant-loop-key : goal.invariant-loop-key
invariant-loop-key l = l.steps.items ≡ map Purge (take l.key-index l.keys)
