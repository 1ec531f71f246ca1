use Rattle.std.proofs.Common.{◌∙◌, arith, inl, inr, length, drop}
use Rattle.std.proofs.lemmas.Bool.{cases_lt}
use Rattle.rules.specs.VersionFrontLaws.{part_cmp-step}
use Rattle.debversion.proofs.Pieces.{behind-le, behind-lt}
use Rattle.debversion.proofs.compare.next_cmp.Goals as goal

pub returns-clause-decides : goal.returns-clause-decides
returns-clause-decides c =
    rw (c.first_cmp.ensures.ordering, c.first_cmp.ensures.left, c.first_cmp.ensures.right, c.split_at.ensures.back, c.split_at-2.ensures.back)
    (c.skipped_len-skipped.ensures.undecided
    ∙ part_cmp-step (drop c.skipped_len-skipped.result c.args.a.now) (drop c.skipped_len-skipped.result c.args.b.now))

pub returns-clause-shorter : goal.returns-clause-shorter
returns-clause-shorter c some =
    let n = c.skipped_len-skipped.result in
    rw (c.first_cmp.ensures.left, c.first_cmp.ensures.right, c.split_at.ensures.back, c.split_at-2.ensures.back)
    (elim (cases_lt 0 (length c.args.a.now)) [
      | inl left ↦ omega (arith, behind-lt n c.args.a.now left, behind-le n c.args.b.now)
      | inr none ↦ omega (arith, behind-le n c.args.a.now, behind-lt n c.args.b.now (omega arith))
    ])
