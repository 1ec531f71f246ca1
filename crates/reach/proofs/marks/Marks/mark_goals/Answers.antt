-- What one more goal asks for is marked, and in the end what all ask for.
use Rattle.std.proofs.Common.{arith, ap, length}
use Rattle.rules.specs.Minimal.{AsksFor}
use Rattle.rules.specs.declared.goal.Goal.{Goal}
use Rattle.reach.proofs.ListLemmas.{item_in}
use Rattle.reach.proofs.MarkLemmas.{extends_further}
use Rattle.reach.proofs.ReachLemmas.{all_items, more_items}
use Rattle.reach.proofs.marks.Marks.mark_goals.Goals as goal

pub loop-goal-preserved : goal.loop-goal-preserved
loop-goal-preserved c = (
  extends_further c.args.self.now c.loop-goal.self c.mark_goal.new.self c.loop-goal.invariant.0 c.in_ok-mark_goal.ensures.extends,
  more_items c.args.providers.now c.loop-goal.self c.mark_goal.new.self (λ (each : Goal) pkg. AsksFor pkg.name each) c.args.universe.now.goals c.loop-goal.goal-index c.goal-item.result
      c.in_ok-mark_goal.ensures.extends
      (item_in c.goals-goal-items.result.now c.args.universe.now.goals c.loop-goal.goal-index c.goal-item.result c.goals-goal-items.ensures c.loop-goal-test.true c.goal-item.is)
      c.loop-goal.invariant.1 c.in_ok-mark_goal.ensures.marked,
)

pub returns-clause-marked : goal.returns-clause-marked
returns-clause-marked c = all_items c.args.providers.now c.loop-goal.self (λ (each : Goal) pkg. AsksFor pkg.name each) c.args.universe.now.goals c.loop-goal.goal-index
    (omega (arith, ap length c.goals-goal-items.ensures)) c.loop-goal.invariant.1
