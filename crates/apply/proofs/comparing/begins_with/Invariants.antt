use Rattle.std.proofs.Common.{◌↔◌, drop, map}
use Rattle.std.specs.Option.{option_copied}
use Rattle.apply.specs.Planned.{BeginsWith, planned}
use Rattle.apply.proofs.comparing.begins_with.Given as goal

abbrev pub invariant-loop-i : goal.invariant-loop-i
invariant-loop-i l =
    BeginsWith (planned l.steps (map option_copied l.texts)) l.taken
    ↔ BeginsWith (planned (drop l.i l.steps) (drop l.i (map option_copied l.texts))) (drop l.i l.taken)
