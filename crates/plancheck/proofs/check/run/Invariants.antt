-- The steps before the index are a run, and names are distinct.
use Rattle.std.proofs.Common.{◌≡◌, take}
use Rattle.rules.specs.Database.{HasDistinctNames}
use Rattle.rules.specs.Run.{Run}
use Rattle.plancheck.proofs.check.run.Given as goal

abbrev pub invariant-loop-step : goal.invariant-loop-step
invariant-loop-step l = record {
  number : l.number ≡ l.step-index;
  run : Run l.universe l.initial.db (take l.step-index l.steps) l.db;
  distinct : HasDistinctNames l.db;
}
