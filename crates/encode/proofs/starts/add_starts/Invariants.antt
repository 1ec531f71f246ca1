-- What the start says of the names so far.
use Rattle.std.proofs.Common.{take}
use Rattle.std.specs.List.{Any}
use Rattle.encode.specs.Growing.{Grows}
use Rattle.encode.specs.Starts.{IsSaidBy}
use Rattle.encode.proofs.starts.add_starts.Given as goal

abbrev pub invariant-loop-start : goal.invariant-loop-start
invariant-loop-start l = Grows l.facts l.fn.encoding l.encoding
    (λ reason. Any (λ start. IsSaidBy l.facts start reason) (take l.start-index l.starts))
