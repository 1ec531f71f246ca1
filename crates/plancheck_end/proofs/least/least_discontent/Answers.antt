-- Each record adds its name where it isn't settled.
use Rattle.std.proofs.Common.{List, subst}
use Rattle.std.specs.Option.{option_copied}
use Rattle.rules.specs.Database.{Record, IsInstalled, installed_of, pkg_of}
use Rattle.rules.specs.Sound.{HasItsRelations}
use Rattle.plancheck_end.specs.Least.{IsLeastWithout}
use Rattle.plancheck_end.proofs.LeastLemmas.{with_the_next, with_all}
use Rattle.plancheck_end.proofs.least.least_discontent.Goals as goal

pub loop-entry-preserved : goal.loop-entry-preserved
loop-entry-preserved c = with_the_next
    (λ (entry : Record). IsInstalled entry → HasItsRelations (installed_of c.args.db.now) (pkg_of entry))
    (λ (entry : Record). entry.name) c.as_slice-records.result.now c.loop-entry.entry-index c.entry-item.result c.name.result.now
    (option_copied c.loop-entry.least) (option_copied c.least_with-least.result) c.is_settled.result
    c.loop-entry-test.true c.entry-item.is c.name.ensures c.is_settled.ensures c.least_with-least.ensures
    c.loop-entry.invariant

pub returns : goal.returns
returns c =
    let Least : List Record → Type 0 = λ records. IsLeastWithout (λ (entry : Record). IsInstalled entry → HasItsRelations (installed_of c.args.db.now) (pkg_of entry))
    (λ (entry : Record). entry.name) records (option_copied c.loop-entry.least) in
    subst Least c.as_slice-records.ensures (with_all (λ (entry : Record). IsInstalled entry → HasItsRelations (installed_of c.args.db.now) (pkg_of entry))
    (λ (entry : Record). entry.name) c.as_slice-records.result.now c.loop-entry.entry-index (option_copied c.loop-entry.least)
    c.loop-entry-test.false c.loop-entry.invariant)
