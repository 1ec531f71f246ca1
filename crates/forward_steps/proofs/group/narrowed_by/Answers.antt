-- One name more narrows the group.
use Rattle.std.proofs.Common.{take}
use Rattle.plancheck_group.proofs.PartLemmas.{up_to_next}
use Rattle.forward_steps.specs.Group.{IsNarrowedBy}
use Rattle.forward_steps.proofs.GroupLemmas.{narrowed_more}
use Rattle.forward_steps.proofs.group.narrowed_by.Goals as goal

pub loop-name-preserved : goal.loop-name-preserved
loop-name-preserved c = up_to_next (λ by. IsNarrowedBy c.args.db.now c.args.names.now by c.in_ok-narrow.narrow.items) c.args.names.now
    c.loop-name.name-index c.name-item.result c.loop-name-test.true c.name-item.is
    (narrowed_more c.args.db.now c.args.names.now (take c.loop-name.name-index c.args.names.now) c.loop-name.narrow.items
    c.in_ok-narrow.narrow.items c.name-item.result c.loop-name.invariant c.in_ok-narrow.ensures)
