-- What is left is narrowed; each turn drops as many as it answers.
use Rattle.std.proofs.Common.{◌+◌, length}
use Rattle.plancheck_group.specs.Part.{IsNarrowed}
use Rattle.plancheck_group.proofs.lacking.drop_after.Given as goal

abbrev pub invariant-turns : goal.invariant-turns
invariant-turns l = IsNarrowed l.db l.initial.part l.part

abbrev pub decreases-turns : goal.decreases-turns
decreases-turns l = length l.part + length l.gone.items
