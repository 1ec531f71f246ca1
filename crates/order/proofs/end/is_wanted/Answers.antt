-- A good end is wanted where just the selection is installed, and one with something against it isn't.
use Rattle.std.proofs.Common.{◌≡◌, true, false, sym, ◌∙◌}
use Rattle.forward_steps.specs.PartialPlan.{selected_in}
use Rattle.order.proofs.EndLemmas.{not_wanted, nothing_where_none, wanted_where_exact}
use Rattle.order.proofs.end.is_wanted.Goals as goal

pub returns-then-is_some : goal.returns-then-is_some
returns-then-is_some c = (
  λ answer. absurd (let e : false ≡ true = answer in cc),
  λ wanted. absurd (not_wanted c.good_plan_has_yes.ensures c.args.problem.now.universe.now c.args.problem.now.start.now
      (selected_in c.args.problem.now) c.args.plan.now.steps.items c.args.plan.now.db c.in_ok-against.against c.requires.problem.quiet
      c.requires.reached.run (sym c.is_some.ensures ∙ c.if-is_some.true) c.in_ok-against.ensures wanted),
)

pub returns : goal.returns
returns c = wanted_where_exact c.good_where_nothing_is_against.ensures c.args.problem.now.universe.now c.args.problem.now.start.now
    (selected_in c.args.problem.now) c.args.plan.now.steps.items c.args.plan.now.db c.is_exact-exact.result c.requires.problem.built
    c.requires.reached.run
    (nothing_where_none c.args.problem.now.universe.now c.args.plan.now.db c.in_ok-against.against (sym c.is_some.ensures ∙ c.if-is_some.false)
    c.in_ok-against.ensures) c.is_exact-exact.ensures
