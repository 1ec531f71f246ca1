-- With the literals of the line false, the hints end in a clause that is all false.
use Rattle.std.specs.List.{Contains}
use Rattle.refutecheck.specs.Falses.{IsFalse}
use Rattle.refutecheck.proofs.FollowLemmas.{follow_ends}
use Rattle.refutecheck.proofs.follow.follows.Goals as goal

pub returns-in_ok-ends-in-Some : goal.returns-in_ok-ends-in-Some
returns-in_ok-ends-in-Some c = follow_ends c.args.clauses.now (IsFalse c.in_ok-falses-in-Some.falses) (Contains c.args.literals.now)
    c.in_ok-falses-in-Some.ensures c.args.hints.now c.in-Some.first.now c.in-Some.last.now c.in-Some.ensures.cases.0
    c.in_ok-ends-in-Some.ends c.in_ok-ends-in-Some.ensures
