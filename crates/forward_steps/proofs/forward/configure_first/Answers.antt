-- A group of those that wait is allowed where one is found, and else none is.
use Rattle.std.proofs.Common.{List, ℕ, Option, MatchOption, refl, subst, ◌∙◌}
use Rattle.rules.specs.Legal.{Allowed}
use Rattle.rules.specs.declared.step.Step.TheVariants.{Configure}
use Rattle.forward_steps.specs.PartialPlan.{NoPartPasses, NoneConfigured, selected_in}
use Rattle.forward_steps.specs.Group.{IsGroupOf}
use Rattle.forward_steps.proofs.MoveLemmas.{group_allowed, group_forward, moves_by, none_configured}
use Rattle.forward_steps.proofs.forward.configure_first.Goals as goal

pub returns-in-None-clause-moves : goal.returns-in-None-clause-moves
returns-in-None-clause-moves c = (
  none_configured c.args.problem.now.universe.now c.args.problem.now.members.now c.args.plan.now.db
      c.requires.problem.one_each c.requires.reached.distinct
      (subst (λ (names : List (List ℕ)). NoPartPasses c.args.plan.now.db names) (c.as_slice.ensures.value ∙ c.in_ok-names.ensures)
      (subst (λ (group : Option (List (List ℕ))). MatchOption group (NoPartPasses c.args.plan.now.db c.as_slice.result.now)
      (λ members. IsGroupOf c.args.plan.now.db c.as_slice.result.now members)) c.in-None.is c.in_ok-group.ensures)),
  refl,
)

pub take_forward-requires-clause-forward : goal.take_forward-requires-clause-forward
take_forward-requires-clause-forward c = group_forward c.args.problem.now.universe.now c.args.problem.now.members.now c.args.plan.now.db
    c.in-Some.names
    (subst (λ (names : List (List ℕ)). IsGroupOf c.args.plan.now.db names c.in-Some.names) (c.as_slice.ensures.value ∙ c.in_ok-names.ensures)
    (subst (λ (group : Option (List (List ℕ))). MatchOption group (NoPartPasses c.args.plan.now.db c.as_slice.result.now)
    (λ members. IsGroupOf c.args.plan.now.db c.as_slice.result.now members)) c.in-Some.is c.in_ok-group.ensures))

pub returns-clause-moves : goal.returns-clause-moves
returns-clause-moves c = moves_by (selected_in c.args.problem.now) c.args.plan.now.db c.take_forward.new.plan.db c.in_ok-moved-in-Some.moved
    (¬ Allowed c.args.problem.now.universe.now c.args.plan.now.db (Configure c.in-Some.names))
    (NoneConfigured c.args.problem.now.universe.now (selected_in c.args.problem.now) c.args.plan.now.db)
    (λ cannot. absurd (cannot (group_allowed c.args.problem.now.universe.now c.args.plan.now.db c.as_slice.result.now c.in-Some.names
    (subst (λ (group : Option (List (List ℕ))). MatchOption group (NoPartPasses c.args.plan.now.db c.as_slice.result.now)
    (λ members. IsGroupOf c.args.plan.now.db c.as_slice.result.now members)) c.in-Some.is c.in_ok-group.ensures))))
    c.in_ok-moved-in-Some.ensures.moves
