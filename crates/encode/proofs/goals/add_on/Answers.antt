-- The literal that the goal says of the pair.
use Rattle.refutation.specs.Premise.{IsInPremise}
use Rattle.refutation.specs.declared.line.Premise.TheVariants as premise
use Rattle.encode.specs.Goals.{said}
use Rattle.encode.proofs.GoalLemmas.{said_alone}
use Rattle.encode.proofs.goals.add_on.Goals as goal

pub add-requires : goal.add-requires
add-requires c = said_alone (IsInPremise c.args.facts.now (premise.GoalOn c.args.number c.args.pair)) (said c.args.is_selected c.args.pair)
    c.literal_of.result c.in_ok-literals.literals.items c.as_slice.result.now c.as_slice.ensures.value c.literal_of.ensures
    c.in_ok-literals.ensures c.requires
