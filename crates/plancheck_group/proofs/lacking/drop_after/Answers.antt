-- Each turn narrows what is left, and drops as many names as it answers.
use Rattle.std.proofs.Common.{rules, ◌<◌, length, arith}
use Rattle.plancheck_group.proofs.DropLemmas.{lost_is_gone, narrowed_through, some_left}
use Rattle.plancheck_group.proofs.PartLemmas.{whole_narrowed}
use Rattle.plancheck_group.proofs.lacking.drop_after.Goals as goal

pub turns-init : goal.turns-init
turns-init c = whole_narrowed c.args.db.now c.args.part.now

pub turns-preserved : goal.turns-preserved
turns-preserved c = narrowed_through c.args.db.now c.args.part.now c.turns.part c.drop_next.new.part c.turns.invariant
    c.in_ok-next.ensures.narrowed

pub turns-smaller : goal.turns-smaller
turns-smaller c = let some : 0 < length c.turns.gone.items = some_left c.turns.gone.items c.turns.gone.len c.is_empty.result (search rules)
    c.is_empty.ensures c.turns-test.true in omega (arith, c.in_ok-next.ensures.shorter)

pub returns-then-some_is_lost-clause-narrowed : goal.returns-then-some_is_lost-clause-narrowed
returns-then-some_is_lost-clause-narrowed c = c.turns.invariant

pub returns-then-some_is_lost-clause-lost : goal.returns-then-some_is_lost-clause-lost
returns-then-some_is_lost-clause-lost c = λ _. lost_is_gone c.args.lost.now c.turns.part c.as_slice.result.now
    (c.some_is_lost.ensures.0 c.if-some_is_lost.true)
