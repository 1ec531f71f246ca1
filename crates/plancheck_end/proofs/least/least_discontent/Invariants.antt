-- The least name so far.
use Rattle.std.proofs.Common.{take}
use Rattle.std.specs.Option.{option_copied}
use Rattle.rules.specs.Database.{Record, IsInstalled, installed_of, pkg_of}
use Rattle.rules.specs.Sound.{HasItsRelations}
use Rattle.plancheck_end.specs.Least.{IsLeastWithout}
use Rattle.plancheck_end.proofs.least.least_discontent.Given as goal

abbrev pub invariant-loop-entry : goal.invariant-loop-entry
invariant-loop-entry l = IsLeastWithout (λ (entry : Record). IsInstalled entry → HasItsRelations (installed_of l.db) (pkg_of entry))
    (λ (entry : Record). entry.name) (take l.entry-index l.records) (option_copied l.least)
