-- The steps before the place are taken, and names are distinct.
use Rattle.std.proofs.Common.{take}
use Rattle.rules.specs.Database.{HasDistinctNames}
use Rattle.rules.specs.Run.{Run}
use Rattle.witness.proofs.taken.take_steps.Given as goal

abbrev pub invariant-loop-place : goal.invariant-loop-place
invariant-loop-place l = record {
  run : Run l.universe l.initial.db (take l.place l.steps) l.db;
  distinct : HasDistinctNames l.db;
}
