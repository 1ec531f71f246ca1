-- The names so far are those before the index but for this one.
use Rattle.std.proofs.Common.{◌≢◌, take}
use Rattle.plancheck_group.specs.Part.{IsPartWith}
use Rattle.forward_steps.proofs.group.others_of.Given as goal

abbrev pub invariant-loop-other : goal.invariant-loop-other
invariant-loop-other l = IsPartWith (λ other. other ≢ l.name) (take l.other-index l.names) l.others.items
