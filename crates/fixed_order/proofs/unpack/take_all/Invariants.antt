-- The steps that are left are a run from the records reached to the end.
use Rattle.std.proofs.Common.{◌≡◌, drop}
use Rattle.rules.specs.Database.{HasDistinctNames}
use Rattle.rules.specs.Run.{Run}
use Rattle.plain.specs.Order.{after_all}
use Rattle.fixed_order.proofs.unpack.take_all.Given as goal

abbrev pub invariant-loop-step : goal.invariant-loop-step
invariant-loop-step l = record {
  number : l.place ≡ l.step-index;
  run : Run l.universe l.db (drop l.step-index l.steps) (after_all l.universe l.initial.db l.steps);
  distinct : HasDistinctNames l.db;
}
