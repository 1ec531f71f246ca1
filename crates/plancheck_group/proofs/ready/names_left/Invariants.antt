-- The names so far are those of the part before the index.
use Rattle.std.proofs.Common.{take}
use Rattle.std.specs.List.{Contains}
use Rattle.plancheck_group.specs.Part.{IsPartWith}
use Rattle.plancheck_group.proofs.ready.names_left.Given as goal

abbrev pub invariant-loop-name : goal.invariant-loop-name
invariant-loop-name l = IsPartWith (Contains l.part) (take l.name-index l.names) l.left.items
