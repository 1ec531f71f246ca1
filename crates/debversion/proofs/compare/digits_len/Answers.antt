use Rattle.std.proofs.Common.{arith, rules, sym, length}
use Rattle.std.proofs.lemmas.List.Sums.{prefix_len_is}
use Rattle.std.specs.Char.{is_ascii_digit}
use Rattle.debversion.proofs.compare.digits_len.Goals as goal

pub returns-then-not-is_ascii_digit-clause-value : goal.returns-then-not-is_ascii_digit-clause-value
returns-then-not-is_ascii_digit-clause-value c =
    sym (prefix_len_is is_ascii_digit c.args.part.now c.loop-end.end 0 (omega arith) c.loop-end.invariant (λ h. search rules))

pub returns-clause-value : goal.returns-clause-value
returns-clause-value c =
    sym (prefix_len_is is_ascii_digit c.args.part.now (length c.args.part.now) 0 (omega arith)
    (λ k h. c.loop-end.invariant k (omega arith))
    (λ h. absurd (omega arith)))
