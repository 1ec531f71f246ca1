-- One more number is lifted, and in the end all are.
use Rattle.solver.proofs.LiftLemmas.{lifted_all, lifted_more}
use Rattle.solver.proofs.lift.lift_numbers.Goals as goal

pub loop-number-preserved : goal.loop-number-preserved
loop-number-preserved c =
    let within = c.requires c.loop-number.number-index 0 c.loop-number-test.true in
    lifted_more c.args.numbers.now c.args.chosen.now c.loop-number.number-index c.loop-number.lifted.items c.push.new.self.items
    c.loop-number-test.true within.0 within.1 c.in_ok-push.ensures.items c.loop-number.invariant

pub returns : goal.returns
returns c = lifted_all c.args.numbers.now c.args.chosen.now c.loop-number.number-index c.loop-number.lifted.items c.loop-number-test.false
    c.loop-number.auto.number-index-end c.loop-number.invariant
