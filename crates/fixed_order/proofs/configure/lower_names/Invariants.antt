-- The lower names so far are those before the index.
use Rattle.std.proofs.Common.{take}
use Rattle.std.specs.Option.{option_copied}
use Rattle.plancheck_group.specs.Part.{IsPartWith}
use Rattle.fixed_order.specs.Alone.{MayPass}
use Rattle.fixed_order.proofs.configure.lower_names.Given as goal

abbrev pub invariant-loop-name : goal.invariant-loop-name
invariant-loop-name l = IsPartWith (MayPass l.db (option_copied l.bound)) (take l.name-index l.names) l.lower.items
