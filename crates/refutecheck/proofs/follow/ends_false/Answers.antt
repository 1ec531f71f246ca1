-- Going through the hints, and the last one behind them.
use Rattle.std.proofs.Common.{◌≡◌, true, false, sym, ◌∙◌}
use Rattle.refutecheck.proofs.follow.ends_false.Goals as goal

pub returns-then-not-branch : goal.returns-then-not-branch
returns-then-not-branch c = (
  λ is. absurd (let e : false ≡ true = is in cc),
  λ through. absurd (let e : false ≡ true = sym c.if-not-branch.true ∙ ((c.in_ok-go_through.ensures c.args.last).0 through).0 in cc),
)

pub returns : goal.returns
returns c = (
  λ is. (c.in_ok-go_through.ensures c.args.last).1 (c.if-not-branch.false, c.is_false_at.ensures.0 is),
  λ through. c.is_false_at.ensures.1 ((c.in_ok-go_through.ensures c.args.last).0 through).1,
)
