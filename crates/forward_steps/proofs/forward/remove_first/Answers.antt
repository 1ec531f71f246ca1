-- The names that leave have no member, and no other name that has none is present.
use Rattle.std.proofs.Common.{sym, subst, ◌∙◌}
use Rattle.std.specs.List.{All}
use Rattle.rules.specs.Sound.{HasMember}
use Rattle.forward_steps.specs.PartialPlan.{CannotRemove, NoneRemoved, selected_in}
use Rattle.forward_steps.proofs.MoveLemmas.{leaving_away, moves_by, none_removed}
use Rattle.forward_steps.proofs.forward.remove_first.Goals as goal

pub remove_among-requires-clause-away : goal.remove_among-requires-clause-away
remove_among-requires-clause-away c = subst (All (λ name. ¬ HasMember name (selected_in c.args.problem.now)))
    (sym (c.as_slice.ensures.value ∙ c.in_ok-names.ensures)) (leaving_away c.args.problem.now.members.now c.args.plan.now.db)

pub returns-clause-moves : goal.returns-clause-moves
returns-clause-moves c = moves_by (selected_in c.args.problem.now) c.args.plan.now.db c.remove_among.new.plan.db c.in_ok-moved.moved
    (All (CannotRemove c.args.problem.now.universe.now c.args.plan.now.db) c.as_slice.result.now)
    (NoneRemoved c.args.problem.now.universe.now (selected_in c.args.problem.now) c.args.plan.now.db)
    (λ cannot. none_removed c.args.problem.now.universe.now c.args.problem.now.members.now c.args.plan.now.db
    (subst (All (CannotRemove c.args.problem.now.universe.now c.args.plan.now.db)) (c.as_slice.ensures.value ∙ c.in_ok-names.ensures) cannot))
    c.in_ok-moved.ensures.moves
