-- What the order promises of the selection.
use Rattle.std.proofs.Common.{subst}
use Rattle.order.specs.declared.ordered.Ordered.{Ordered}
use Rattle.order.specs.declared.ordered.Ordered.TheVariants as ordered
use Rattle.ordering.specs.Ordering.{IsOrdering}
use Rattle.solver.proofs.plan.plan_selection.Goals as goal

pub judged_plan-requires-clause-planned : goal.judged_plan-requires-clause-planned
judged_plan-requires-clause-planned c =
    let Is : Ordered → Type 0 = λ ordering. IsOrdering c.args.universe.now c.args.start.now c.args.selection.now ordering in
    let planned : Is (ordered.Plan c.in-Plan.steps) = subst Is c.in-Plan.is c.in_ok-ordering.ensures in (
      c.args.selection.now,
      record { acceptable = c.requires.acceptable; minimal = c.requires.minimal; plan = planned.order; fixed = planned.fixed },
    )

pub returns-in-Stuck-clause-solved : goal.returns-in-Stuck-clause-solved
returns-in-Stuck-clause-solved c =
    let Is : Ordered → Type 0 = λ ordering. IsOrdering c.args.universe.now c.args.start.now c.args.selection.now ordering in
    let stuck : Is (ordered.Stuck c.in-Stuck.steps) = subst Is c.in-Stuck.is c.in_ok-ordering.ensures in (
      c.args.selection.now,
      record { acceptable = c.requires.acceptable; minimal = c.requires.minimal; unplain = stuck.fixed; blocked = stuck.order },
    )

pub returns-in-Start : goal.returns-in-Start
returns-in-Start c =
    let Is : Ordered → Type 0 = λ ordering. IsOrdering c.args.universe.now c.args.start.now c.args.selection.now ordering in
    let start : Is ordered.Start = subst Is c.in-Start.is c.in_ok-ordering.ensures in
    absurd (start.order c.requires.quiet)
