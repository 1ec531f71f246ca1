-- One goal more asks for no purge that is allowed.
use Rattle.std.proofs.Common.{◌≡◌, List, take, subst, ◌∙◌}
use Rattle.std.proofs.lemmas.List.Elements.{All-more}
use Rattle.std.proofs.lemmas.List.{take_all}
use Rattle.rules.specs.Database.{Record}
use Rattle.std.specs.List.{All}
use Rattle.forward_steps.specs.PartialPlan.{CannotPurge, selected_in}
use Rattle.forward_steps.proofs.MoveLemmas.{stayed}
use Rattle.forward_steps.proofs.forward.purge_first.Goals as goal

pub loop-asked-preserved : goal.loop-asked-preserved
loop-asked-preserved c =
    let both = stayed (selected_in c.args.problem.now) c.loop-asked.plan.db c.purge.new.plan.db c.in_ok-moved.moved
    (CannotPurge c.args.problem.now.universe.now c.loop-asked.plan.db c.asked-item.result) c.if-moved.false c.in_ok-moved.ensures.moves in
    record {
      reached = c.in_ok-moved.ensures.reached;
      same = both.1 ∙ c.loop-asked.invariant.same;
      refused = All-more (CannotPurge c.args.problem.now.universe.now c.args.plan.now.db) c.goals-asked-items.result.now c.loop-asked.asked-index
          c.asked-item.result c.loop-asked-test.true c.loop-asked.invariant.refused
          (subst (CannotPurge c.args.problem.now.universe.now c.args.plan.now.db) c.asked-item.is
          (subst (λ (db : List Record). CannotPurge c.args.problem.now.universe.now db c.asked-item.result) c.loop-asked.invariant.same both.0));
    }

pub returns-clause-moves : goal.returns-clause-moves
returns-clause-moves c =
    let all : take c.loop-asked.asked-index c.goals-asked-items.result.now ≡ c.goals-asked-items.result.now =
    take_all c.loop-asked.asked-index c.goals-asked-items.result.now c.loop-asked-test.false in (
      subst (All (CannotPurge c.args.problem.now.universe.now c.args.plan.now.db)) (all ∙ c.goals-asked-items.ensures) c.loop-asked.invariant.refused,
      c.loop-asked.invariant.same,
    )
