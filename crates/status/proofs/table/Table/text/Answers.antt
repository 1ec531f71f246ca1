use Rattle.std.proofs.Common.{◌∙◌, ap}
use Rattle.status.proofs.StoredLemmas.{kept-text}
use Rattle.status.proofs.TextLemmas.{texts_in}
use Rattle.status.proofs.TouchLemmas.{if-ok}
use Rattle.status_text.specs.Slot.{Store}
use Rattle.status.specs.Text.{places_text, slots_text}
use Rattle.status.proofs.table.Table.text.Goals as goal
use Rattle.std.specs.Arc.{arc_slice_items}

pub returns : goal.returns
returns c =
    if-ok c.text_of.result (λ text is. is ∙ ap (λ places. places_text (texts_in (λ t. arc_slice_items t) places)) c.as_slice.ensures.value
    ∙ kept-text c.self.inside.arch.items (texts_in (λ t. arc_slice_items t) c.self.inside.places.items) c.self.invariant.1
    ∙ ap (λ (store : Store). slots_text store.slots) c.self.view_is) c.text_of.ensures
