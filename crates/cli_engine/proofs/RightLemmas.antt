-- What is answered to a request is right.
use Rattle.std.proofs.Common.{ℕ, List}
use Rattle.rules.specs.Database.{Record}
use Rattle.rules.specs.Universe.{Universe}
use Rattle.solver.specs.Solved.{IsSolved}
use Rattle.solver.specs.declared.solved.Solved.{Solved}
use Rattle.solver.specs.declared.solved.Solved.TheVariants as solved
use Rattle.cli_engine.specs.Right.{IsRight}

-- an answer that is true is right
pub solved-right : (u : Universe) (start : List Record) (limit : ℕ) (answer : Solved) → IsSolved u start limit answer → IsRight u start answer
solved-right u start limit (solved.Plan steps) is = is.0
solved-right u start limit (solved.Refuted lines) is = is.1.0
solved-right u start limit (solved.Undecided why) is = tt
