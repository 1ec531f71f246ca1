-- What the start says of the names so far.
use Rattle.std.proofs.Common.{take}
use Rattle.std.specs.List.{Any}
use Rattle.encode.specs.Goals.{IsUpgradeBy}
use Rattle.encode.specs.Growing.{Grows}
use Rattle.encode.proofs.goals.add_upgrades.Given as goal

abbrev pub invariant-loop-start : goal.invariant-loop-start
invariant-loop-start l = Grows l.facts l.fn.encoding l.encoding
    (λ reason. Any (λ start. IsUpgradeBy l.facts l.number start reason) (take l.start-index l.starts))
