-- The step is that of the goal's name; another goal asks for no purge.
use Rattle.std.proofs.Common.{◌≡◌, refl, subst}
use Rattle.rules.specs.Legal.{Allowed}
use Rattle.rules.specs.declared.step.Step.TheVariants.{Purge}
use Rattle.forward_steps.specs.PartialPlan.{CannotPurge, selected_in}
use Rattle.forward_steps.proofs.MoveLemmas.{moves_by}
use Rattle.forward_steps.proofs.forward.purge.Goals as goal

pub returns-in_ok-moved-in-Purge-clause-moves : goal.returns-in_ok-moved-in-Purge-clause-moves
unfolding CannotPurge
returns-in_ok-moved-in-Purge-clause-moves c = moves_by (selected_in c.args.problem.now) c.args.plan.now.db c.take_forward.new.plan.db
    c.in_ok-moved-in-Purge.moved
    (¬ Allowed c.args.problem.now.universe.now c.args.plan.now.db (Purge c.in_ok-try_copy-in-Purge.field-0))
    (CannotPurge c.args.problem.now.universe.now c.args.plan.now.db c.args.asked.now)
    (λ cannot name is. subst (λ n. ¬ Allowed c.args.problem.now.universe.now c.args.plan.now.db (Purge n))
    (let e : c.in_ok-try_copy-in-Purge.field-0 ≡ name = cc (c.in_ok-try_copy-in-Purge.ensures, c.in-Purge.is, is) in e) cannot)
    c.in_ok-moved-in-Purge.ensures.moves

pub returns-in_default : goal.returns-in_default
unfolding CannotPurge
returns-in_default c = record { reached = c.requires.reached; moves = (λ name is. absurd (c.in_default.not-Purge name is), refl) }
