-- One name more can't be removed.
use Rattle.std.proofs.Common.{List, subst, ◌∙◌}
use Rattle.std.proofs.lemmas.List.Elements.{All-more}
use Rattle.rules.specs.Database.{Record}
use Rattle.plancheck_group.proofs.PartLemmas.{up_to_end}
use Rattle.std.specs.List.{All}
use Rattle.forward_steps.specs.PartialPlan.{CannotRemove, selected_in}
use Rattle.forward_steps.proofs.MoveLemmas.{stayed}
use Rattle.forward_steps.proofs.forward.remove_among.Goals as goal

pub loop-name-preserved : goal.loop-name-preserved
loop-name-preserved c =
    let both = stayed (selected_in c.args.problem.now) c.loop-name.plan.db c.remove.new.plan.db c.in_ok-moved.moved
    (CannotRemove c.args.problem.now.universe.now c.loop-name.plan.db c.name-item.result) c.if-moved.false c.in_ok-moved.ensures.moves in
    record {
      reached = c.in_ok-moved.ensures.reached;
      same = both.1 ∙ c.loop-name.invariant.same;
      refused = All-more (CannotRemove c.args.problem.now.universe.now c.args.plan.now.db) c.args.names.now c.loop-name.name-index
          c.name-item.result c.loop-name-test.true c.loop-name.invariant.refused
          (subst (CannotRemove c.args.problem.now.universe.now c.args.plan.now.db) c.name-item.is
          (subst (λ (db : List Record). CannotRemove c.args.problem.now.universe.now db c.name-item.result) c.loop-name.invariant.same both.0));
    }

pub returns-clause-moves : goal.returns-clause-moves
returns-clause-moves c = (
  up_to_end (All (CannotRemove c.args.problem.now.universe.now c.args.plan.now.db)) c.args.names.now
      c.loop-name.name-index c.loop-name-test.false c.loop-name.invariant.refused,
  c.loop-name.invariant.same,
)
