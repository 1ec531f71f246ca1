-- Which answers to a request are right, as far as they are told of.
use Rattle.std.specs.Prelude.{List, ⊤}
use Rattle.refutation.specs.Refutation.{IsAccepted}
use Rattle.rules.specs.Database.{Record}
use Rattle.rules.specs.Run.{IsGoodPlan}
use Rattle.rules.specs.Universe.{Universe}
use Rattle.solver.specs.declared.solved.Solved.{Solved}
use Rattle.solver.specs.declared.solved.Solved.TheVariants as solved

-- the answer, if it is a plan, is a good one, and if it is a refutation, is accepted
abbrev pub IsRight : Universe → List Record → Solved → Type 0
IsRight u start (solved.Plan steps) = IsGoodPlan u start steps.items
IsRight u start (solved.Refuted lines) = IsAccepted u lines
IsRight u start (solved.Undecided why) = ⊤
