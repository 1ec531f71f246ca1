-- The names so far, and those of the steps that are left, are the names of all.
use Rattle.std.proofs.Common.{◌≡◌, drop, fold}
use Rattle.json_answers.specs.Unpacked.{unpacked_in, with_unpacked}
use Rattle.json_answers.proofs.unpacked.UnpackedNames.by.Given as goal

abbrev pub invariant-loop-step : goal.invariant-loop-step
invariant-loop-step l = fold with_unpacked l.names (drop l.step-index l.steps) ≡ unpacked_in l.steps
