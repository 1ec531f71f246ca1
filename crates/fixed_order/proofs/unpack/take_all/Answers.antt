-- The stanza at the place of the step is that of the step.
use Rattle.std.proofs.Common.{sym}
use Rattle.fixed_order.proofs.UnpackLemmas.{stanza_of_step}
use Rattle.fixed_order.proofs.unpack.take_all.Goals as goal

pub apply-requires-clause-listed : goal.apply-requires-clause-listed
apply-requires-clause-listed c = stanza_of_step c.args.universe.now c.args.steps.now c.args.stanzas.now _ c.loop-step.step-index
    c.loop-step.place c.step-item.result c.requires.stanzas c.loop-step-test.true c.loop-step.invariant.number c.stanza_at-listed.ensures
    (sym c.step-item.is)
