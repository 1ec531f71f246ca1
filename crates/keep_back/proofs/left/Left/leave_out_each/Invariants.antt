-- So far some wishes were left out, or none.
use Rattle.keep_back.specs.Further.{IsFewerBy}
use Rattle.keep_back.proofs.left.Left.leave_out_each.Given as goal

abbrev pub invariant-loop-place : goal.invariant-loop-place
invariant-loop-place l = IsFewerBy l.is_fewer l.fn.self l.self
