-- The set has the names before the index.
use Rattle.std.proofs.Common.{take}
use Rattle.plancheck_group.specs.Part.{HaveSameNames}
use Rattle.plancheck_group.proofs.part.NameSet.of.Given as goal

abbrev pub invariant-loop-name : goal.invariant-loop-name
invariant-loop-name l = HaveSameNames l.part (take l.name-index l.names)
