-- Each name of the start is added where it is essential, was present and isn't installed.
use Rattle.std.specs.Option.{option_copied}
use Rattle.rules.specs.Database.{installed_of}
use Rattle.rules.specs.Sound.{KeepsEssential}
use Rattle.rules.specs.Universe.{Start}
use Rattle.plancheck_end.proofs.LeastLemmas.{with_the_next, with_all}
use Rattle.plancheck_end.proofs.least.least_lost.Goals as goal

pub loop-start-preserved : goal.loop-start-preserved
loop-start-preserved c = with_the_next (KeepsEssential (installed_of c.args.db.now)) (λ (start : Start). start.name)
    c.args.starts.now c.loop-start.start-index c.start-item.result c.name.result.now (option_copied c.loop-start.least)
    (option_copied c.least_with-least.result) c.keeps_essential.result c.loop-start-test.true c.start-item.is
    c.name.ensures c.keeps_essential.ensures c.least_with-least.ensures c.loop-start.invariant

pub returns : goal.returns
returns c = with_all (KeepsEssential (installed_of c.args.db.now)) (λ (start : Start). start.name) c.args.starts.now
    c.loop-start.start-index (option_copied c.loop-start.least) c.loop-start-test.false c.loop-start.invariant
