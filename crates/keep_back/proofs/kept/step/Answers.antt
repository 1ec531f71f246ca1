-- What is left out is left out of a request that is refuted.
use Rattle.std.proofs.Common.{subst}
use Rattle.keep_back.specs.Further.{IsLeftOutFor, request_of}
use Rattle.keep_back.proofs.KeepLemmas.{further-fewer, refuted-request}
use Rattle.keep_back.proofs.kept.step.Goals as goal

pub returns-then-branch-clause-left : goal.returns-then-branch-clause-left
returns-then-branch-clause-left c =
    let out = subst (IsLeftOutFor c.in_ok-solved.solved.solved c.args.left.now c.leave_out.new.left) c.if-branch.true c.in_ok-leave_out.ensures in
    further-fewer c.args.before.now c.args.left.now c.leave_out.new.left out.1
    (refuted-request c.args.before.now c.args.limit (request_of c.args.left.now) c.in_ok-solved.solved c.in_ok-solved.ensures.solved out.0)
