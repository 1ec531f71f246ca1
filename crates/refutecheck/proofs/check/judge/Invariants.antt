-- The lines so far are good, and these are their clauses.
use Rattle.std.proofs.Common.{take}
use Rattle.refutecheck.specs.Answer.{AreJudged}
use Rattle.refutecheck.proofs.check.judge.Given as goal

abbrev pub invariant-loop-place : goal.invariant-loop-place
invariant-loop-place l = AreJudged l.premises (take l.place l.lines) l.kept
