use Rattle.std.proofs.Common.{◌≡◌, map, take}
use Rattle.apply_engine.proofs.readying.copies.Given as goal

abbrev pub invariant-loop-name : goal.invariant-loop-name
invariant-loop-name l = map (λ name. name.items) l.copies.items ≡ map (λ name. name.now) (take l.name-index l.names)
