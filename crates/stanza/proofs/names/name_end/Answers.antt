-- Before the offset all bytes are a name's, and the one at it is not: that fixes how many they are.
use Rattle.std.proofs.Common.{length, arith, sym}
use Rattle.std.proofs.lemmas.List.Sums.{prefix_len_is}
use Rattle.stanza.specs.Field.{is_name_byte}
use Rattle.stanza.proofs.names.name_end.Goals as goal

pub returns-then-not-is_name_byte-clause-end : goal.returns-then-not-is_name_byte-clause-end
returns-then-not-is_name_byte-clause-end c =
    sym (prefix_len_is is_name_byte c.args.line.now c.loop-offset.offset 0 c.loop-offset.auto.offset-end c.loop-offset.invariant (λ _. sym c.if-not-is_name_byte.ensures))

pub returns-clause-end : goal.returns-clause-end
returns-clause-end c =
    let line = c.args.line.now in
    sym (prefix_len_is is_name_byte line (length line) 0 (omega arith) (λ k h. c.loop-offset.invariant k (omega arith)) (λ h. absurd (omega (arith, h))))
