-- What the start says of the name is what may be upgraded.
use Rattle.std.proofs.Common.{sym, ◌∙◌}
use Rattle.refutation.specs.Premise.{IsUpgradeFrom}
use Rattle.refutecheck.proofs.GoalLemmas.{by_record}
use Rattle.refutecheck.proofs.StartLemmas.{decides_no_start, decides_start}
use Rattle.refutecheck.proofs.goals.is_upgrade.Goals as goal

pub returns-in-None : goal.returns-in-None
returns-in-None c = decides_no_start c.args.premises.now.starts c.name.result.now (IsUpgradeFrom c.args.premises.now c.args.pair.now.pkg)
    c.in-None.ensures.start (λ start upgrade. upgrade.name ∙ sym c.name.ensures)

pub returns-in-Some : goal.returns-in-Some
returns-in-Some c = decides_start c.args.premises.now.starts c.in-Some.ensures.distinct c.name.result.now c.in-Some.start.now
    (IsUpgradeFrom c.args.premises.now c.args.pair.now.pkg) c.is_upgrade_from.result c.in-Some.ensures.start
    (λ start upgrade. upgrade.name ∙ sym c.name.ensures)
    (by_record c.args.premises.now c.args.pair.now.pkg c.in-Some.start.now c.is_upgrade_from.result c.is_upgrade_from.ensures)
