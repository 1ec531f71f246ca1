use Rattle.std.proofs.Common.{◌∙◌, ◌<◌, None, bytes_eq, not, ap, slice_set, subst, sym}
use Rattle.std.specs.List.{filter}
use Rattle.std.specs.Map.{remove_entry}
use Rattle.status.proofs.NameLemmas.{unnamed-kept}
use Rattle.status.proofs.PlaceLemmas.{found-at, remove-owned}
use Rattle.status.proofs.TableLemmas.{none-named}
use Rattle.status.proofs.TextLemmas.{IsTextTable, in-places, names_in, place-within, read-length, slots-emptied, text-emptied, texts_in}
use Rattle.status_text.specs.Slot.{Store}
use Rattle.status.specs.Places.{FindsAt, slots_at, slots_read}
use Rattle.status.specs.Slots.{entry_named, is_slot_named}
use Rattle.status.proofs.table.Table.delete.Goals as goal
use Rattle.std.specs.Arc.{arc_slice_items}

pub returns-in_default : goal.returns-in_default
returns-in_default c =
    let name = c.args.name.now in
    let places = slots_read c.self.inside.arch.items (texts_in (λ t. arc_slice_items t) c.self.inside.places.items) in
    let none = subst (FindsAt name places) (sym c.in_default.ensures) (found-at (λ key. key.items) name places c.self.inside.numbers.entries c.self.invariant.0.0) in
    let kept = unnamed-kept name c.args.self.now.slots (none-named name c.args.self.now.slots (ap (λ (store : Store). entry_named name store.slots) (sym c.self.view_is) ∙ none)) in
    λ i. record { arch = c.args.self.now.arch; slots = sym kept i }

pub index_mut-requires : goal.index_mut-requires
index_mut-requires c =
    let places = slots_read c.self.inside.arch.items (texts_in (λ t. arc_slice_items t) c.self.inside.places.items) in
    let at = subst (FindsAt c.args.name.now places) (sym c.in-Some.ensures)
    (found-at (λ key. key.items) c.args.name.now places c.self.inside.numbers.entries c.self.invariant.0.0) in
    subst (λ n. c.in-Some.place < n) (read-length (λ t. arc_slice_items t) c.self.inside.arch.items c.self.inside.places.items ∙ sym c.self.inside.places.ok.0)
    (place-within places c.in-Some.place _ at.there)

pub invariant_of-self : goal.invariant_of-self
invariant_of-self c =
    let arch = c.self.inside.arch.items in
    let name = c.args.name.now in
    let es = c.self.inside.numbers.entries in
    let texts = texts_in (λ t. arc_slice_items t) c.self.inside.places.items in
    let at = subst (FindsAt name (slots_read arch texts)) (sym c.in-Some.ensures) (found-at (λ key. key.items) name (slots_read arch texts) es c.self.invariant.0.0) in
    let left = remove_entry (λ other. bytes_eq other name) (names_in es) in
    subst (λ names. IsTextTable arch names (texts_in (λ t. arc_slice_items t) (slice_set c.self.inside.places.items c.in-Some.place None)))
    (sym (ap names_in c.shift_remove.ensures.entries ∙ remove-owned (λ key. key.items) name es))
    (subst (IsTextTable arch left) (sym (in-places (λ t. arc_slice_items t) c.self.inside.places.items c.in-Some.place None))
    (text-emptied arch name (names_in es) texts c.self.invariant c.in-Some.place at))

pub returns : goal.returns
returns c =
    let arch = c.self.inside.arch.items in
    let name = c.args.name.now in
    let es = c.self.inside.numbers.entries in
    let texts = texts_in (λ t. arc_slice_items t) c.self.inside.places.items in
    let at = subst (FindsAt name (slots_read arch texts)) (sym c.in-Some.ensures) (found-at (λ key. key.items) name (slots_read arch texts) es c.self.invariant.0.0) in
    let emptied = ap (λ t. slots_at (slots_read arch t)) (in-places (λ t. arc_slice_items t) c.self.inside.places.items c.in-Some.place None)
    ∙ slots-emptied arch name (names_in es) texts c.self.invariant c.in-Some.place at in
    (λ i. record { arch = arch; slots = emptied i })
    ∙ ap (λ (store : Store). record { arch = store.arch; slots = filter (λ slot. not (is_slot_named name slot)) store.slots }) c.self.view_is
