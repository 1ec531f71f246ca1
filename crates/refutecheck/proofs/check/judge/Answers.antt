-- One line more, or the first bad one.
use Rattle.std.proofs.Common.{◌≡◌, true, false, subst, sym, take, ◌∙◌}
use Rattle.refutation.specs.Refutation.{IsGoodLine}
use Rattle.refutation.specs.declared.line.Line.{Line}
use Rattle.refutecheck.proofs.LineLemmas.{accepted, all_judged, first_bad, unfinished}
use Rattle.refutecheck.proofs.check.judge.Goals as goal

pub returns-then-not-branch : goal.returns-then-not-branch
returns-then-not-branch c =
    let Bad : Line → Type 0 = λ line. ¬ IsGoodLine c.args.premises.now (take c.loop-place.place c.args.lines.now) line in
    first_bad c.args.premises.now c.args.lines.now c.loop-place.kept c.loop-place.place c.index-lines-place.result
    c.loop-place-test.true c.loop-place.invariant (subst Bad c.index-lines-place.is (c.in_ok-keep_line.ensures.bad c.if-not-branch.true))

pub returns-then-ends_with_none : goal.returns-then-ends_with_none
returns-then-ends_with_none c = accepted c.args.premises.now c.args.lines.now c.loop-place.kept
    (all_judged c.args.premises.now c.args.lines.now c.loop-place.kept c.loop-place.place c.loop-place-test.false c.loop-place.invariant)
    (c.ends_with_none.ensures.0 c.if-ends_with_none.true)

pub returns : goal.returns
returns c = unfinished c.args.premises.now c.args.lines.now c.loop-place.kept
    (all_judged c.args.premises.now c.args.lines.now c.loop-place.kept c.loop-place.place c.loop-place-test.false c.loop-place.invariant)
    (λ ends.
    let so : c.ends_with_none.result ≡ true = c.ends_with_none.ensures.1 ends in
    absurd (let e : false ≡ true = sym c.if-ends_with_none.false ∙ so in cc))
