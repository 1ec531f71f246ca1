-- A name that isn't lacking changes nothing; one that is is dropped and added.
use Rattle.std.proofs.Common.{length}
use Rattle.plancheck_group.proofs.DropLemmas.{looked_dropped, looked_kept, one_longer}
use Rattle.plancheck_group.proofs.lacking.move_lacking.Goals as goal

pub returns-then-not-drop_lacking : goal.returns-then-not-drop_lacking
returns-then-not-drop_lacking c = looked_kept c.args.db.now c.args.name.now c.args.part.now c.drop_lacking.new.part (length c.args.gone.now.items)
    (c.drop_lacking.ensures.same c.if-not-drop_lacking.true) (c.drop_lacking.ensures.supplied c.if-not-drop_lacking.true)

pub returns : goal.returns
returns c = looked_dropped c.args.db.now c.args.name.now c.args.part.now c.drop_lacking.new.part (length c.args.gone.now.items)
    (length c.push.new.self.items) c.drop_lacking.ensures.narrowed (c.drop_lacking.ensures.dropped c.if-not-drop_lacking.false)
    (one_longer c.args.gone.now.items c.push.new.self.items c.args.name c.in_ok-push.ensures.items)
