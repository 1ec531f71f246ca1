-- One hint further.
use Rattle.std.proofs.Common.{◌≡◌, true, false, sym, ◌∙◌, refl}
use Rattle.refutecheck.specs.Falses.{IsFalse}
use Rattle.refutecheck.proofs.FollowLemmas.{at_last, step_further}
use Rattle.refutecheck.proofs.follow.go_through.Goals as goal

pub returns-then-not-branch : goal.returns-then-not-branch
returns-then-not-branch c = λ last.
    let further = step_further c.args.clauses.now (IsFalse c.args.falses.now) (IsFalse c.loop-hint.falses) (IsFalse c.go_on.new.falses)
    c.in_ok-go_on.field-0 c.args.hints.now c.loop-hint.hint-index c.loop-hint-test.true c.in_ok-go_on.ensures c.loop-hint.invariant last in (
      λ through. absurd (let e : false ≡ true = sym c.if-not-branch.true ∙ (further.0 through).0 in cc),
      λ both. absurd (let e : false ≡ true = both.0 in cc),
    )

pub loop-hint-preserved : goal.loop-hint-preserved
loop-hint-preserved c = λ last.
    let further = step_further c.args.clauses.now (IsFalse c.args.falses.now) (IsFalse c.loop-hint.falses) (IsFalse c.go_on.new.falses)
    c.in_ok-go_on.field-0 c.args.hints.now c.loop-hint.hint-index c.loop-hint-test.true c.in_ok-go_on.ensures c.loop-hint.invariant last in (
      λ through. (further.0 through).1,
      λ through. further.1 (c.if-not-branch.false, through),
    )

pub returns : goal.returns
returns c = λ last.
    let ends = at_last c.args.clauses.now (IsFalse c.args.falses.now) (IsFalse c.loop-hint.falses) c.args.hints.now
    c.loop-hint.hint-index c.loop-hint-test.false c.loop-hint.invariant last in
    (λ through. (refl, ends.0 through), λ both. ends.1 both.1)
