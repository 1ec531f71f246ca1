-- A walk over the names before the index has dropped those that went.
use Rattle.std.proofs.Common.{length, take}
use Rattle.plancheck_group.specs.Part.{IsWalked}
use Rattle.plancheck_group.proofs.lacking.drop_each.Given as goal

abbrev pub invariant-loop-name : goal.invariant-loop-name
invariant-loop-name l = IsWalked l.db (take l.name-index l.names) l.initial.part l.part (length l.gone.items)
