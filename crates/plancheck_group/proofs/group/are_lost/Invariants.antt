-- Without any of the names before the index nothing passes.
use Rattle.std.proofs.Common.{take}
use Rattle.std.specs.List.{All}
use Rattle.plancheck_group.specs.Part.{NothingWithout}
use Rattle.plancheck_group.proofs.group.are_lost.Given as goal

abbrev pub invariant-loop-name : goal.invariant-loop-name
invariant-loop-name l = All (NothingWithout l.db l.ready) (take l.name-index l.names)
