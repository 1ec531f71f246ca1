use Rattle.std.proofs.Common.{◌∙◌, ap, map}
use Rattle.status.proofs.PlaceLemmas.{key-names, numbered-names}
use Rattle.status.proofs.TextLemmas.{texts_in}
use Rattle.status_text.specs.Slot.{Store}
use Rattle.status.specs.Places.{slots_read}
use Rattle.status.specs.Slots.{names_of}
use Rattle.status.proofs.table.Table.names.Goals as goal
use Rattle.std.specs.Arc.{arc_slice_items}

pub returns : goal.returns
returns c =
    ap (map (λ name. name.items)) (c.as_slice.ensures ∙ c.keys.ensures.rest) ∙ key-names (λ key. key.items) c.self.inside.numbers.entries
    ∙ ap (map (λ p. p.0)) c.self.invariant.0.0 ∙ numbered-names 0 (slots_read c.self.inside.arch.items (texts_in (λ t. arc_slice_items t) c.self.inside.places.items))
    ∙ ap (λ (store : Store). names_of store.slots) c.self.view_is
