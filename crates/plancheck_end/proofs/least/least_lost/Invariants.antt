-- The least name so far.
use Rattle.std.proofs.Common.{take}
use Rattle.std.specs.Option.{option_copied}
use Rattle.rules.specs.Database.{installed_of}
use Rattle.rules.specs.Sound.{KeepsEssential}
use Rattle.rules.specs.Universe.{Start}
use Rattle.plancheck_end.specs.Least.{IsLeastWithout}
use Rattle.plancheck_end.proofs.least.least_lost.Given as goal

abbrev pub invariant-loop-start : goal.invariant-loop-start
invariant-loop-start l = IsLeastWithout (KeepsEssential (installed_of l.db)) (λ (start : Start). start.name)
    (take l.start-index l.starts) (option_copied l.least)
