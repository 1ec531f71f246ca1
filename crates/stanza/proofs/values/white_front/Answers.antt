-- Before the offset all bytes are white, and the one at it is not: that fixes how many they are.
use Rattle.std.proofs.Common.{length, arith, sym}
use Rattle.std.proofs.lemmas.List.Sums.{prefix_len_is}
use Rattle.stanza.specs.Line.{is_white}
use Rattle.stanza.proofs.values.white_front.Goals as goal

pub returns-then-not-is_white-clause-front : goal.returns-then-not-is_white-clause-front
returns-then-not-is_white-clause-front c =
    sym (prefix_len_is is_white c.args.text.now c.loop-offset.offset 0 c.loop-offset.auto.offset-end c.loop-offset.invariant (λ _. sym c.if-not-is_white.ensures))

pub returns-clause-front : goal.returns-clause-front
returns-clause-front c =
    let text = c.args.text.now in
    sym (prefix_len_is is_white text (length text) 0 (omega arith) (λ k h. c.loop-offset.invariant k (omega arith)) (λ h. absurd (omega (arith, h))))
