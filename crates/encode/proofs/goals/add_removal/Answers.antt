-- The pairs of the name.
use Rattle.refutation.specs.Premise.{IsPremise}
use Rattle.encode.specs.Goals.{IsOnEach}
use Rattle.encode.specs.Growing.{IsOfGoal}
use Rattle.encode.proofs.GoalLemmas.{removal_premises, removal_says}
use Rattle.encode.proofs.GrowLemmas.{in_words}
use Rattle.encode.proofs.goals.add_removal.Goals as goal

pub add_on_each-requires : goal.add_on_each-requires
add_on_each-requires c = removal_says c.args.facts.now c.args.number c.args.name.now c.requires

pub returns : goal.returns
returns c = in_words c.args.facts.now c.args.encoding.now c.add_on_each.new.encoding (IsOnEach c.args.number c.as_slice.result.now)
    (λ reason. IsPremise c.args.facts.now reason × IsOfGoal c.args.number reason)
    (removal_premises c.args.facts.now c.args.number c.args.name.now c.requires c.in_ok-pairs.pairs.items c.as_slice.result.now c.as_slice.ensures.value c.in_ok-pairs.ensures)
    c.in_ok-add_on_each.ensures
