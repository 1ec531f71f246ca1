-- The steps in the fixed order are a plan.
use Rattle.refutation.specs.Selection.{selects}
use Rattle.ordering.proofs.PlanLemmas.{plan_that_ends_well}
use Rattle.ordering.proofs.selection.order_plain.Goals as goal

pub returns : goal.returns
returns c =
    let u = c.args.universe.now in
    let start = c.args.start.now in
    let numbers = c.args.selection.now in
    let steps = c.in_ok-steps.steps.items in
    let (quiet, (finish, well)) = c.plain_change_is_ordered.ensures u start (selects numbers) steps c.requires.change c.in_ok-steps.ensures in
    record {
      order = plan_that_ends_well u start finish numbers steps quiet well;
      fixed = λ _. c.in_ok-steps.ensures;
    }
