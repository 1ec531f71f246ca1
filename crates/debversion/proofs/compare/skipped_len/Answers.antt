use Rattle.std.proofs.Common.{arith}
use Rattle.debversion.proofs.Cuts.{take-same-le}
use Rattle.debversion.proofs.Skips.{part_cmp-skip}
use Rattle.debversion.proofs.compare.skipped_len.Goals as goal

pub returns-clause-undecided : goal.returns-clause-undecided
returns-clause-undecided c =
    let within = c.number_start.ensures.within in
    let left = c.shared_len.ensures.left in
    let right = c.shared_len.ensures.right in
    part_cmp-skip c.number_start.result c.args.a.now c.args.b.now (omega arith) (omega arith)
    (take-same-le _ _ _ _ within c.shared_len.ensures.same) c.number_start.ensures.behind_other
