use Rattle.std.proofs.Common.{◌∙◌, ap, subst, sym}
use Rattle.status.proofs.PlaceLemmas.{found-at}
use Rattle.status.proofs.TextLemmas.{texts_in}
use Rattle.status_text.specs.Slot.{Store}
use Rattle.status.specs.Places.{FindsAt, entry_at, slots_read}
use Rattle.std.specs.Prelude.{slice_get}
use Rattle.status.specs.Slots.{entry_named}
use Rattle.status.proofs.table.Table.find.Goals as goal
use Rattle.std.specs.Arc.{arc_slice_items}

pub returns-in-Some : goal.returns-in-Some
returns-in-Some c =
    let arch = c.self.inside.arch.items in
    let name = c.args.name.now in
    let places = slots_read arch (texts_in (λ t. arc_slice_items t) c.self.inside.places.items) in
    let at = subst (FindsAt name places) (sym c.in-Some.ensures) (found-at (λ key. key.items) name places c.self.inside.numbers.entries c.self.invariant.0.0) in
    c.record_at.ensures
    ∙ (λ i. entry_at (slice_get (slots_read (c.as_slice.ensures.value i) (texts_in (λ t. arc_slice_items t) (c.as_slice-in-Some.ensures.value i))) c.in-Some.place))
    ∙ ap entry_at at.there ∙ sym at.entry_is ∙ ap (λ (store : Store). entry_named name store.slots) c.self.view_is

pub returns-in-None : goal.returns-in-None
returns-in-None c =
    let places = slots_read c.self.inside.arch.items (texts_in (λ t. arc_slice_items t) c.self.inside.places.items) in
    let none = subst (FindsAt c.args.name.now places) (sym c.in-None.ensures)
    (found-at (λ key. key.items) c.args.name.now places c.self.inside.numbers.entries c.self.invariant.0.0) in
    sym none ∙ ap (λ (store : Store). entry_named c.args.name.now store.slots) c.self.view_is
