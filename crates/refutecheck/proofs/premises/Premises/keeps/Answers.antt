-- The test was made before.
use Rattle.refutecheck.proofs.GoalLemmas.{no_remove_decides}
use Rattle.refutecheck.proofs.premises.Premises.keeps.Goals as goal

pub returns : goal.returns
returns c = no_remove_decides c.args.self.now.goals c.self.inside.keeps (cc (c.self.invariant.0, c.self.view_is))
