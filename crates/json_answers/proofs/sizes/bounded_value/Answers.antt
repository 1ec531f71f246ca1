-- A further digit makes the value of one digit more, and the value only grows with further digits.
use Rattle.std.proofs.Common.{◌+◌, arith, get_or}
use Rattle.std.proofs.lemmas.Int.Digits.{digits_value_more}
use Rattle.std.proofs.lemmas.Str.Parse.{digits_value-take-le}
use Rattle.debversion.specs.DigitLaws.{digit_value-digit}
use Rattle.json_answers.proofs.sizes.bounded_value.Goals as goal

pub returns-then-value-from : goal.returns-then-value-from
returns-then-value-from c =
    let more = digits_value_more 10 c.args.digits.now c.loop-digit.digit-index c.loop-digit-test.true in
    let digit = digit_value-digit (get_or c.args.digits.now c.loop-digit.digit-index 0) (c.requires c.loop-digit.digit-index 0 c.loop-digit-test.true) in
    let part = digits_value-take-le 10 c.args.digits.now (c.loop-digit.digit-index + 1) (omega arith) in
    let so_far = c.loop-digit.invariant.0 in
    let read = c.from.ensures in
    let bound = c.from-in-loop-digit.ensures in
    let above = c.if-value-from.true in
    omega arith

pub loop-digit-preserved : goal.loop-digit-preserved
loop-digit-preserved c =
    let more = digits_value_more 10 c.args.digits.now c.loop-digit.digit-index c.loop-digit-test.true in
    let digit = digit_value-digit (get_or c.args.digits.now c.loop-digit.digit-index 0) (c.requires c.loop-digit.digit-index 0 c.loop-digit-test.true) in
    let so_far = c.loop-digit.invariant.0 in
    let read = c.from.ensures in
    let bound = c.from-in-loop-digit.ensures in
    let within = c.if-value-from.false in
    (omega arith, omega arith)
