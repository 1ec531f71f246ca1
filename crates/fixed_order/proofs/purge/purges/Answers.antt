-- The names in their order are the purges.
use Rattle.std.proofs.Common.{List, map, ap, subst, ◌∙◌}
use Rattle.rules.specs.declared.goal.Goal.{Goal}
use Rattle.rules.specs.declared.step.Step.TheVariants.{Purge}
use Rattle.fixed_order.specs.Purge.{ArePurgesIn}
use Rattle.fixed_order.proofs.PurgeLemmas.{are_purges}
use Rattle.fixed_order.proofs.purge.purges.Goals as goal

pub returns : goal.returns
returns c = (
  c.in_ok-keys.keys.items,
  are_purges c.args.universe.now c.args.db.now c.in_ok-asked.asked.items c.in_ok-keys.keys.items
      (subst (λ (goals : List Goal). ArePurgesIn c.args.db.now goals c.in_ok-asked.asked.items) c.goals.ensures c.in_ok-asked.ensures)
      c.in_ok-keys.ensures,
  c.in_ok-steps.ensures ∙ ap (map Purge) c.as_slice.ensures.value,
)
