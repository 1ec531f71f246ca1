use Rattle.std.proofs.Common.{length}
use Rattle.stanza.proofs.FieldsLemmas.{PassesContinuations}
use Rattle.stanza.proofs.entries.continuations.Given as goal

abbrev pub invariant-loop-rest : goal.invariant-loop-rest
invariant-loop-rest l = PassesContinuations l.text l.rest l.len l.lines

abbrev pub decreases-loop-rest : goal.decreases-loop-rest
decreases-loop-rest l = length l.rest
