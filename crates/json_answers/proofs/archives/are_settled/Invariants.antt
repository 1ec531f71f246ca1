-- The steps so far have nothing left to be found.
use Rattle.std.proofs.Common.{◌≡◌, drop}
use Rattle.json_answers.proofs.archives.are_settled.Given as goal
use Rattle.json_answers.specs.Archives.{are_settled}

abbrev pub invariant-loop-step : goal.invariant-loop-step
invariant-loop-step l = are_settled (drop l.step-index l.steps) l.rest ≡ are_settled l.steps l.archives
