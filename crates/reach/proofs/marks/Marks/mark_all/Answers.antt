-- One more place is marked, and in the end all are.
use Rattle.std.proofs.Common.{arith}
use Rattle.reach.proofs.MarkLemmas.{all_marked, extends_further, marked_more}
use Rattle.reach.proofs.marks.Marks.mark_all.Goals as goal

pub mark-requires : goal.mark-requires
mark-requires c = omega (arith, c.requires c.loop-place.place-index 0 c.loop-place-test.true, c.loop-place.invariant.0.long)

pub loop-place-preserved : goal.loop-place-preserved
loop-place-preserved c = (
  extends_further c.args.self.now c.loop-place.self c.mark.new.self c.loop-place.invariant.0 c.in_ok-mark.ensures.extends,
  marked_more c.loop-place.self c.mark.new.self c.args.places.now c.loop-place.place-index c.in_ok-mark.ensures.extends
      c.loop-place.invariant.1 c.in_ok-mark.ensures.marked,
)

pub returns-clause-marked : goal.returns-clause-marked
returns-clause-marked c = all_marked c.loop-place.self c.args.places.now c.loop-place.place-index c.loop-place-test.false c.loop-place.invariant.1
