-- The least name so far.
use Rattle.std.proofs.Common.{take}
use Rattle.std.specs.Option.{option_copied}
use Rattle.rules.specs.Database.{Record, IsUnfinished}
use Rattle.plancheck_end.specs.Least.{IsLeastWithout}
use Rattle.plancheck_end.proofs.least.least_unfinished.Given as goal

abbrev pub invariant-loop-entry : goal.invariant-loop-entry
invariant-loop-entry l = IsLeastWithout (λ (entry : Record). ¬ IsUnfinished entry) (λ (entry : Record). entry.name)
    (take l.entry-index l.records) (option_copied l.least)
