-- What is left has what passes, and of the names before the index only ready ones.
use Rattle.std.proofs.Common.{take}
use Rattle.std.specs.List.{All, Contains}
use Rattle.plancheck_group.specs.Part.{HasWhatPasses, IsReady}
use Rattle.plancheck_group.proofs.ready.keep_ready.Given as goal

abbrev pub invariant-loop-name : goal.invariant-loop-name
invariant-loop-name l = record {
  has : HasWhatPasses l.db l.initial.part l.part;
  ready : All (λ name. Contains l.part name → IsReady l.db name) (take l.name-index l.names);
}
