use Rattle.std.proofs.Common.{◌≡◌, []}
use Rattle.stanza.specs.declared.form.Form.TheVariants.{Plain}
use Rattle.stanza.specs.Stanza.{items_of}
use Rattle.status_text.specs.Status.{slots_in, with_slots}
use Rattle.status_text.proofs.read.slots_in.Given as goal

-- the slots so far, before those of the items that are left, are the text's
abbrev pub invariant-loop-item : goal.invariant-loop-item
invariant-loop-item l =
    (goal.iterator-loop-item).can_next l.item-iterator ×
    (goal.iterator-loop-item).is_finite l.item-iterator ×
    (slots_in l.arch (items_of Plain l.text) [] ≡ with_slots l.slots.items (slots_in l.arch l.item-iterator l.seen))
