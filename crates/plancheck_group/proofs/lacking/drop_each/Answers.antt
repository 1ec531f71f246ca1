-- Each name is looked at in turn.
use Rattle.std.proofs.Common.{ℕ, List, [], Bor, length, subst, sym, take}
use Rattle.plancheck_group.specs.Part.{IsWalked}
use Rattle.plancheck_group.proofs.DropLemmas.{walk_begins, walk_on}
use Rattle.plancheck_group.proofs.PartLemmas.{up_to_end, up_to_next}
use Rattle.plancheck_group.proofs.lacking.drop_each.Goals as goal

pub loop-name-init : goal.loop-name-init
loop-name-init c = subst (λ (items : List (Bor (List ℕ))). IsWalked c.args.db.now [] c.args.part.now c.args.part.now (length items))
    (sym c.new-gone.ensures.items) (walk_begins c.args.db.now c.args.part.now)

pub loop-name-preserved : goal.loop-name-preserved
loop-name-preserved c =
    let db = c.args.db.now in let names = c.args.names.now in let place = c.loop-name.name-index in
    up_to_next (λ so_far. IsWalked db so_far c.args.part.now c.move_lacking.new.part (length c.move_lacking.new.gone.items)) names place c.name-item.result
    c.loop-name-test.true c.name-item.is
    (walk_on db (take place names) c.args.part.now c.loop-name.part c.move_lacking.new.part c.name-item.result (length c.loop-name.gone.items)
    (length c.move_lacking.new.gone.items) c.loop-name.invariant (rw c.as_bytes.ensures.bytes at c.in_ok-move_lacking.ensures))

pub returns : goal.returns
returns c = up_to_end (λ so_far. IsWalked c.args.db.now so_far c.args.part.now c.loop-name.part (length c.loop-name.gone.items)) c.args.names.now
    c.loop-name.name-index c.loop-name-test.false c.loop-name.invariant
