-- The premises so far are among the others.
use Rattle.std.proofs.Common.{take}
use Rattle.trim.specs.Needed.{ArePremisesOf}
use Rattle.refutation_sentences.proofs.member.are_premises_of.Given as goal

abbrev pub invariant-loop-line : goal.invariant-loop-line
invariant-loop-line l = ArePremisesOf (take l.line-index l.lines) l.others
