-- Each name that isn't ready is left out in turn.
use Rattle.std.proofs.Common.{take}
use Rattle.plancheck_group.specs.Part.{IsReady}
use Rattle.std.specs.List.{All, Contains}
use Rattle.plancheck_group.proofs.DropLemmas.{of_none, ready_more}
use Rattle.plancheck_group.proofs.PartLemmas.{has_through, up_to_end, up_to_next, whole_has}
use Rattle.plancheck_group.proofs.ready.keep_ready.Goals as goal

pub loop-name-init : goal.loop-name-init
loop-name-init c = record { has = whole_has c.args.db.now c.args.part.now; ready = of_none (λ name. Contains c.args.part.now name → IsReady c.args.db.now name) }

pub loop-name-preserved : goal.loop-name-preserved
loop-name-preserved c = record {
  has = has_through c.args.db.now c.args.part.now c.loop-name.part c.leave_out_unready.new.part c.loop-name.invariant.has c.leave_out_unready.ensures.has;
  ready = up_to_next (All (λ name. Contains c.leave_out_unready.new.part name → IsReady c.args.db.now name)) c.args.names.now c.loop-name.name-index
      c.name-item.result c.loop-name-test.true c.name-item.is
      (ready_more c.args.db.now (take c.loop-name.name-index c.args.names.now) c.loop-name.part c.leave_out_unready.new.part c.name-item.result
      c.leave_out_unready.ensures.has c.leave_out_unready.ensures.ready c.loop-name.invariant.ready);
}

pub returns-clause-has : goal.returns-clause-has
returns-clause-has c = c.loop-name.invariant.has

pub returns-clause-ready : goal.returns-clause-ready
returns-clause-ready c = up_to_end (All (λ name. Contains c.loop-name.part name → IsReady c.args.db.now name)) c.args.names.now c.loop-name.name-index
    c.loop-name-test.false c.loop-name.invariant.ready
