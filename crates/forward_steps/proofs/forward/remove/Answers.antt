-- The step is that of the name.
use Rattle.std.proofs.Common.{subst}
use Rattle.rules.specs.Legal.{Allowed}
use Rattle.rules.specs.declared.step.Step.TheVariants.{Remove}
use Rattle.forward_steps.specs.PartialPlan.{CannotRemove, selected_in}
use Rattle.forward_steps.proofs.MoveLemmas.{moves_by}
use Rattle.forward_steps.proofs.forward.remove.Goals as goal

pub returns-clause-moves : goal.returns-clause-moves
unfolding CannotRemove
returns-clause-moves c = moves_by (selected_in c.args.problem.now) c.args.plan.now.db c.take_forward.new.plan.db c.in_ok-moved.moved
    (¬ Allowed c.args.problem.now.universe.now c.args.plan.now.db (Remove c.in_ok-try_copy.field-0))
    (CannotRemove c.args.problem.now.universe.now c.args.plan.now.db c.args.name.now)
    (λ cannot. subst (λ name. ¬ Allowed c.args.problem.now.universe.now c.args.plan.now.db (Remove name)) c.in_ok-try_copy.ensures cannot)
    c.in_ok-moved.ensures.moves
