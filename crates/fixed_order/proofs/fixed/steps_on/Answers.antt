-- Each phase begins where those before have led.
use Rattle.std.proofs.Common.{map, ◌∙◌}
use Rattle.refutation.specs.Selection.{selects}
use Rattle.rules.specs.declared.step.Step.TheVariants.{Purge}
use Rattle.plain.specs.Order.{to_unpack, unpack_of}
use Rattle.plain.proofs.SelectedLemmas.{members_are_by_name}
use Rattle.fixed_order.specs.Problem.{members_in}
use Rattle.fixed_order.proofs.FixedLemmas.{parts_are, unpacked_is, unpacked_underway, unpacks_run}
use Rattle.fixed_order.proofs.fixed.steps_on.Goals as goal

pub take_all-requires-clause-run : goal.take_all-requires-clause-run
take_all-requires-clause-run c = unpacks_run c.args.problem.now.universe.now c.args.problem.now.start.now c.in_ok-db.db
    (selects c.args.problem.now.selection.now) c.as_slice-2.result.now c.requires.problem.change
    (c.in_ok-db.ensures ∙ c.in_ok-records.ensures ∙ c.as_slice.ensures) (c.as_slice-2.ensures.value ∙ c.requires.unpacks)

pub removals-requires-clause-underway : goal.removals-requires-clause-underway
removals-requires-clause-underway c = unpacked_underway c.args.problem.now.universe.now c.args.problem.now.start.now c.in_ok-db.db
    c.take_all.new.db (selects c.args.problem.now.selection.now) c.as_slice-2.result.now c.requires.problem.change
    (c.in_ok-db.ensures ∙ c.in_ok-records.ensures ∙ c.as_slice.ensures) (c.as_slice-2.ensures.value ∙ c.requires.unpacks)
    c.in_ok-take_all.ensures

pub returns : goal.returns
returns c = record {
  unpacks = to_unpack c.args.problem.now.start.now (members_in c.args.problem.now);
  removals = c.in_ok-removals.removals.items;
  configures = c.in_ok-configures.configures.items;
  purges = c.in_ok-purges.ensures.0;
  all_unpacked = c.take_all.new.db;
  all_removed = c.removals.new.db;
  all_configured = c.configures.new.db;
  parts = c.in_ok-steps.ensures ∙ parts_are c.args.unpacks.items
      (map unpack_of (to_unpack c.args.problem.now.start.now (members_in c.args.problem.now))) c.in_ok-removals.removals.items
      c.in_ok-configures.configures.items c.in_ok-purges.purges.items (map Purge c.in_ok-purges.ensures.0) c.requires.unpacks
      c.in_ok-purges.ensures.2;
  unpacks_are = members_are_by_name c.args.problem.now.universe.now c.args.problem.now.start.now (selects c.args.problem.now.selection.now)
      c.requires.problem.change;
  all_unpacked_is = unpacked_is c.args.problem.now.universe.now c.args.problem.now.start.now c.in_ok-db.db c.take_all.new.db
      c.as_slice-2.result.now (to_unpack c.args.problem.now.start.now (members_in c.args.problem.now))
      (c.in_ok-db.ensures ∙ c.in_ok-records.ensures ∙ c.as_slice.ensures) (c.as_slice-2.ensures.value ∙ c.requires.unpacks)
      c.in_ok-take_all.ensures;
  removals_are = c.in_ok-removals.ensures.removals;
  all_removed_is = c.in_ok-removals.ensures.after;
  configures_are = c.in_ok-configures.ensures.configures;
  all_configured_is = c.in_ok-configures.ensures.after;
  purges_are = c.in_ok-purges.ensures.1;
}
