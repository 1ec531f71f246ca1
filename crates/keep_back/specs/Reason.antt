-- What an answer says of its request.
use Rattle.std.specs.Prelude.{Bool, true, false, ⊤}
use Rattle.solver.specs.declared.solved.Solved.{Solved}
use Rattle.solver.specs.declared.solved.Solved.TheVariants as solved

-- the answer is a refutation
abbrev pub IsRefutation : Solved → Type 0
IsRefutation (solved.Plan steps) = ⊥
IsRefutation (solved.Refuted lines) = ⊤
IsRefutation (solved.Undecided why) = ⊥

-- the answer has no plan
abbrev pub has_no_plan : Solved → Bool
has_no_plan (solved.Plan steps) = false
has_no_plan (solved.Refuted lines) = true
has_no_plan (solved.Undecided why) = true
