use Rattle.std.proofs.Common.{arith, rules, not, sym, length}
use Rattle.std.proofs.lemmas.Bool.{not_from_false, not_from_true}
use Rattle.std.proofs.lemmas.List.Sums.{prefix_len_is}
use Rattle.std.specs.Char.{is_ascii_digit}
use Rattle.debversion.proofs.compare.word_len.Goals as goal

pub returns-then-is_ascii_digit-clause-value : goal.returns-then-is_ascii_digit-clause-value
returns-then-is_ascii_digit-clause-value c =
    sym (prefix_len_is (λ b. not (is_ascii_digit b)) c.args.part.now c.loop-end.end 0 (omega arith)
    (λ k h. not_from_false _ (c.loop-end.invariant k h))
    (λ h. not_from_true _ (search rules)))

pub returns-clause-value : goal.returns-clause-value
returns-clause-value c =
    sym (prefix_len_is (λ b. not (is_ascii_digit b)) c.args.part.now (length c.args.part.now) 0 (omega arith)
    (λ k h. not_from_false _ (c.loop-end.invariant k (omega arith)))
    (λ h. absurd (omega arith)))
