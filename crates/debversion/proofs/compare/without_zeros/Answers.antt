use Rattle.std.proofs.Common.{arith, rules, sym, ap, ◌∙◌, length, drop}
use Rattle.std.proofs.lemmas.List.Sums.{prefix_len_is}
use Rattle.debversion.specs.Zeros.{is_zero}
use Rattle.debversion.proofs.compare.without_zeros.Goals as goal

pub returns-then-digits-start-ne48 : goal.returns-then-digits-start-ne48
returns-then-digits-start-ne48 c =
    c.split_at.ensures.back
    ∙ ap (λ n. drop n c.args.digits.now)
    (sym (prefix_len_is is_zero c.args.digits.now c.loop-start.start 0 (omega arith) c.loop-start.invariant (λ h. search rules)))

pub returns : goal.returns
returns c =
    c.split_at-2.ensures.back
    ∙ ap (λ n. drop n c.args.digits.now)
    (sym (prefix_len_is is_zero c.args.digits.now (length c.args.digits.now) 0 (omega arith)
    (λ k h. c.loop-start.invariant k (omega arith)) (λ h. absurd (omega arith))))
