-- The clause is under each literal so far.
use Rattle.std.proofs.Common.{take}
use Rattle.search_settle.specs.Occurrences.{Gains}
use Rattle.search_settle.proofs.occurrences.Occurrences.push_clause.Given as goal

abbrev pub invariant-loop-literal : goal.invariant-loop-literal
invariant-loop-literal l = Gains l.fn.self (l.self) (take l.literal-index l.clause) l.place
