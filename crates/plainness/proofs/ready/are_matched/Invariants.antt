-- The clauses so far are matched.
use Rattle.std.proofs.Common.{take}
use Rattle.std.specs.List.{All}
use Rattle.plainness.specs.Parts.{IsMatchedByOther}
use Rattle.plainness.proofs.ready.are_matched.Given as goal

abbrev pub invariant-loop-clause : goal.invariant-loop-clause
invariant-loop-clause l = All (IsMatchedByOther l.packages l.name) (take l.clause-index l.clauses)
