-- The package of the pair upgrades.
use Rattle.std.specs.List.{Any}
use Rattle.refutation.specs.Premise.{IsUpgradeFrom}
use Rattle.refutecheck.proofs.PairLemmas.{decides_at}
use Rattle.refutecheck.proofs.goals.is_pair_of_upgrade.Goals as goal

pub returns-in-Some : goal.returns-in-Some
returns-in-Some c = decides_at c.args.premises.now c.args.number c.in-Some.pair.now.pkg
    (λ pkg. Any (IsUpgradeFrom c.args.premises.now pkg) c.args.premises.now.starts) c.is_upgrade.result c.in-Some.ensures c.is_upgrade.ensures
