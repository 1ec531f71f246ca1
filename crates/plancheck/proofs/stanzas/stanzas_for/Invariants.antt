-- The stanzas so far are those of the steps before the index.
use Rattle.std.proofs.Common.{◌≡◌, map, take}
use Rattle.rules.specs.Universe.{listed_for}
use Rattle.plancheck.proofs.stanzas.stanzas_for.Given as goal

abbrev pub invariant-loop-step : goal.invariant-loop-step
invariant-loop-step l = l.stanzas.items ≡ map (listed_for l.universe) (take l.step-index l.steps)
