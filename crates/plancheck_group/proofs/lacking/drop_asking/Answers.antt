-- Each name that asks is looked at in turn.
use Rattle.std.proofs.Common.{length}
use Rattle.plancheck_group.proofs.DropLemmas.{drops_begin, drops_through}
use Rattle.plancheck_group.proofs.lacking.drop_asking.Goals as goal

pub loop-asking-init : goal.loop-asking-init
loop-asking-init c = drops_begin c.args.db.now c.args.part.now (length c.args.next.now.items)

pub loop-asking-preserved : goal.loop-asking-preserved
loop-asking-preserved c = drops_through c.args.db.now c.args.part.now c.loop-asking.part c.move_lacking.new.part (length c.args.next.now.items)
    (length c.loop-asking.next.items) (length c.move_lacking.new.gone.items) c.loop-asking.invariant c.in_ok-move_lacking.ensures.dropped

pub returns-in_default : goal.returns-in_default
returns-in_default c = drops_begin c.args.db.now c.args.part.now (length c.args.next.now.items)
