-- The package of the pair is the version.
use Rattle.refutation.specs.Premise.{IsHeldVersion}
use Rattle.refutecheck.proofs.PairLemmas.{decides_at}
use Rattle.refutecheck.proofs.starts.is_hold_premise.Goals as goal

pub returns-in-Some : goal.returns-in-Some
returns-in-Some c = decides_at c.args.premises.now c.args.number c.in-Some.pair.now.pkg (IsHeldVersion c.args.premises.now)
    c.is_held_version.result c.in-Some.ensures c.is_held_version.ensures
