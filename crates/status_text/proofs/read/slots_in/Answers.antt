use Rattle.std.proofs.Common.{◌∙◌, Ok, ap, append-nil}
use Rattle.stanza.specs.declared.form.Form.TheVariants.{Plain}
use Rattle.stanza.specs.Stanza.{items_of}
use Rattle.status_text.proofs.DistinctLemmas.{distinct_names}
use Rattle.status_text.proofs.SlotsLemmas.{one_more}
use Rattle.status_text.proofs.read.slots_in.Goals as goal

pub loop-item-preserved : goal.loop-item-preserved
loop-item-preserved c = (
  tt,
  tt,
  c.loop-item.invariant.2
      ∙ rw c.in_ok-push.ensures.items (one_more _ _ _ _ _ _ _ _ c.in-Some.ensures.steps c.in_ok-slot.ensures.ok.0 c.in_ok-slot.ensures.ok.1),
)

pub returns-clause-distinct : goal.returns-clause-distinct
returns-clause-distinct c =
    distinct_names c.args.arch.now (items_of Plain c.args.text.now) c.loop-item.slots.items (c.loop-item.invariant.2 ∙ rw c.in-None.ensures.steps.0 (ap Ok (append-nil _)))
