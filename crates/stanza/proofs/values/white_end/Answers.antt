-- From the end on all bytes are white, and the one before it is not: that fixes how many they are.
use Rattle.std.proofs.Common.{◌≡◌, ◌≤◌, ◌-◌, length, arith, sym}
use Rattle.std.specs.List.{suffix_len}
use Rattle.std.proofs.lemmas.List.Sums.{suffix_len_is}
use Rattle.stanza.specs.Line.{is_white}
use Rattle.stanza.proofs.values.white_end.Goals as goal

pub returns-then-not-is_white-clause-end : goal.returns-then-not-is_white-clause-end
returns-then-not-is_white-clause-end c =
    let text = c.args.text.now in
    let n = c.loop-end.end in
    let is : suffix_len is_white text ≡ length text - n =
    suffix_len_is is_white text n 0 c.loop-end.invariant.0 c.loop-end.invariant.1 (λ _. sym c.if-not-is_white.ensures) in
    let within : n ≤ length text = c.loop-end.invariant.0 in
    omega arith

pub returns-clause-end : goal.returns-clause-end
returns-clause-end c =
    let text = c.args.text.now in
    let n = c.loop-end.end in
    let is : suffix_len is_white text ≡ length text - n =
    suffix_len_is is_white text n 0 c.loop-end.invariant.0 c.loop-end.invariant.1 (λ h. absurd (omega (arith, h))) in
    let within : n ≤ length text = c.loop-end.invariant.0 in
    omega arith
