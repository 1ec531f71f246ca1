-- What one more start asks for is marked, and in the end what all ask for.
use Rattle.std.proofs.Common.{◌≡◌, arith, ap, length}
use Rattle.std.specs.Prelude.{IsTrue}
use Rattle.rules.specs.Minimal.{WasPresent}
use Rattle.rules.specs.Universe.{Start}
use Rattle.reach.proofs.ListLemmas.{item_in}
use Rattle.reach.proofs.MarkLemmas.{extends_further}
use Rattle.reach.proofs.ReachLemmas.{all_items, more_items}
use Rattle.reach.proofs.marks.Marks.mark_starts.Goals as goal

pub loop-start-preserved : goal.loop-start-preserved
loop-start-preserved c = (
  extends_further c.args.self.now c.loop-start.self c.mark_start.new.self c.loop-start.invariant.0 c.in_ok-mark_start.ensures.extends,
  more_items c.args.providers.now c.loop-start.self c.mark_start.new.self (λ (each : Start) pkg. (each.name ≡ pkg.name) × IsTrue each.is_present) c.args.universe.now.starts c.loop-start.start-index c.start-item.result
      c.in_ok-mark_start.ensures.extends
      (item_in c.starts-start-items.result.now c.args.universe.now.starts c.loop-start.start-index c.start-item.result c.starts-start-items.ensures c.loop-start-test.true c.start-item.is)
      c.loop-start.invariant.1 c.in_ok-mark_start.ensures.marked,
)

pub returns-clause-marked : goal.returns-clause-marked
unfolding WasPresent
returns-clause-marked c = all_items c.args.providers.now c.loop-start.self (λ (each : Start) pkg. (each.name ≡ pkg.name) × IsTrue each.is_present) c.args.universe.now.starts c.loop-start.start-index
    (omega (arith, ap length c.starts-start-items.ensures)) c.loop-start.invariant.1
