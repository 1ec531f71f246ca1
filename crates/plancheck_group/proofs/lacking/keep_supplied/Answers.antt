-- What is lacking since names went is dropped, and a walk that drops nothing is the last.
use Rattle.std.proofs.Common.{rules, ◌<◌, length, arith}
use Rattle.plancheck_group.proofs.DropLemmas.{narrowed_through, none_left, settled_part, some_left}
use Rattle.plancheck_group.proofs.PartLemmas.{whole_narrowed}
use Rattle.plancheck_group.proofs.lacking.keep_supplied.Goals as goal

pub turns-init : goal.turns-init
turns-init c = record { narrowed = whole_narrowed c.args.db.now c.drop_each.new.part; settled = c.in_ok-gone.ensures.settled }

pub turns-preserved : goal.turns-preserved
turns-preserved c = record {
  narrowed = narrowed_through c.args.db.now c.drop_each.new.part c.drop_after.new.part c.drop_each-in-turns.new.part
      (narrowed_through c.args.db.now c.drop_each.new.part c.turns.part c.drop_after.new.part c.turns.invariant.narrowed
      c.in_ok-_hit.ensures.narrowed) c.in_ok-next.ensures.narrowed;
  settled = c.in_ok-next.ensures.settled;
}

pub turns-smaller : goal.turns-smaller
turns-smaller c = let some : 0 < length c.turns.gone.items = some_left c.turns.gone.items c.turns.gone.len c.is_empty.result (search rules)
    c.is_empty.ensures c.turns-test.true in omega (arith, c.in_ok-next.ensures.shorter, c.in_ok-_hit.ensures.narrowed.no_longer)

pub returns : goal.returns
returns c = settled_part c.args.db.now c.args.names.now c.args.part.now c.turns.part c.requires
    (narrowed_through c.args.db.now c.args.part.now c.drop_each.new.part c.turns.part c.in_ok-gone.ensures.narrowed c.turns.invariant.narrowed)
    (c.turns.invariant.settled (none_left c.turns.gone.items c.turns.gone.len c.is_empty.result (search rules) c.is_empty.ensures c.turns-test.false))
