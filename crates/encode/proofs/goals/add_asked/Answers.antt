-- The only premise of the goal.
use Rattle.std.proofs.Common.{◌≡◌}
use Rattle.refutation.specs.Premise.{IsPremise}
use Rattle.refutation.specs.declared.line.Premise.TheVariants as premise
use Rattle.encode.specs.Growing.{IsOfGoal}
use Rattle.encode.proofs.GoalLemmas.{asked_only}
use Rattle.encode.proofs.GrowLemmas.{in_words}
use Rattle.encode.proofs.goals.add_asked.Goals as goal

pub returns : goal.returns
returns c = in_words c.args.facts.now c.args.encoding.now c.add.new.self (λ reason. reason ≡ premise.Goal c.args.number)
    (λ reason. IsPremise c.args.facts.now reason × IsOfGoal c.args.number reason) (asked_only c.args.facts.now c.args.number c.requires.asks)
    c.in_ok-add.ensures
