use Rattle.std.proofs.Common.{◌≡◌, ◌∙◌, ◌<◌, Option, Some, ap, subst, sym}
use Rattle.rules.specs.Step.{is_named}
use Rattle.status.proofs.NameLemmas.{unnamed-changed}
use Rattle.status.proofs.PlaceLemmas.{found-at}
use Rattle.status.proofs.TableLemmas.{none-named}
use Rattle.status.proofs.TextLemmas.{IsTextTable, in-places, names_in, place-within, read-length, slots-written, text-written, texts_in}
use Rattle.status_text.specs.Slot.{Store}
use Rattle.status.specs.Change.{IsTextOf}
use Rattle.status.specs.Places.{FindsAt, slots_at, slots_read}
use Rattle.status.specs.Slots.{changed_slots, entry_named}
use Rattle.rules.specs.FileRecord.{FileRecord}
use Rattle.status_text.specs.Alone.{alone}
use Rattle.status_text.specs.Slot.{FileSlot}
use Rattle.status_text.specs.declared.slot.Slot.TheVariants.{Recorded}
use Rattle.status.proofs.table.Table.write.Goals as goal
use Rattle.std.specs.Arc.{arc_slice_items}

same-entry : (a b : FileRecord) → ◌≡◌ {A = Option FileSlot} (Some (Recorded a)) (Some (Recorded b)) → a ≡ b
same-entry a b e = let h = e in cc

pub returns-in_default : goal.returns-in_default
returns-in_default c entry read =
    let name = c.args.name.now in
    let places = slots_read c.self.inside.arch.items (texts_in (λ t. arc_slice_items t) c.self.inside.places.items) in
    let none = subst (FindsAt name places) (sym c.in_default.ensures) (found-at (λ key. key.items) name places c.self.inside.numbers.entries c.self.invariant.0.0) in
    let kept = unnamed-changed name (λ _. entry) c.args.self.now.slots
    (none-named name c.args.self.now.slots (ap (λ (store : Store). entry_named name store.slots) (sym c.self.view_is) ∙ none)) in
    λ i. record { arch = c.args.self.now.arch; slots = sym kept i }

pub index_mut-requires : goal.index_mut-requires
index_mut-requires c =
    let places = slots_read c.self.inside.arch.items (texts_in (λ t. arc_slice_items t) c.self.inside.places.items) in
    let at = subst (FindsAt c.args.name.now places) (sym c.in-Some.ensures)
    (found-at (λ key. key.items) c.args.name.now places c.self.inside.numbers.entries c.self.invariant.0.0) in
    subst (λ n. c.in-Some.place < n) (read-length (λ t. arc_slice_items t) c.self.inside.arch.items c.self.inside.places.items ∙ sym c.self.inside.places.ok.0)
    (place-within places c.in-Some.place _ at.there)

pub invariant_of-self : goal.invariant_of-self
invariant_of-self c =
    let arch = c.self.inside.arch.items in
    let name = c.args.name.now in
    let es = c.self.inside.numbers.entries in
    let texts = texts_in (λ t. arc_slice_items t) c.self.inside.places.items in
    let at = subst (FindsAt name (slots_read arch texts)) (sym c.in-Some.ensures) (found-at (λ key. key.items) name (slots_read arch texts) es c.self.invariant.0.0) in
    let entry = c.requires.0 in
    let stored : IsTextOf arch (arc_slice_items c.args.text) entry = subst (λ (store : Store). IsTextOf store.arch (arc_slice_items c.args.text) entry) (sym c.self.view_is) c.requires.1 in
    subst (IsTextTable arch (names_in es)) (sym (in-places (λ t. arc_slice_items t) c.self.inside.places.items c.in-Some.place (Some c.args.text)))
    (text-written arch name (names_in es) texts c.self.invariant c.in-Some.place at (arc_slice_items c.args.text) entry stored c.requires.2)

pub returns : goal.returns
returns c entry read =
    let arch = c.self.inside.arch.items in
    let name = c.args.name.now in
    let es = c.self.inside.numbers.entries in
    let texts = texts_in (λ t. arc_slice_items t) c.self.inside.places.items in
    let at = subst (FindsAt name (slots_read arch texts)) (sym c.in-Some.ensures) (found-at (λ key. key.items) name (slots_read arch texts) es c.self.invariant.0.0) in
    let here : alone arch (arc_slice_items c.args.text) ≡ Some (Recorded entry) = ap (λ (store : Store). alone store.arch (arc_slice_items c.args.text)) c.self.view_is ∙ read in
    let named : entry.status.name ≡ name = ap (λ (e : FileRecord). e.status.name) (same-entry entry c.requires.0 (sym read ∙ c.requires.1.read)) ∙ c.requires.2 in
    let left = ap (λ t. slots_at (slots_read arch t)) (in-places (λ t. arc_slice_items t) c.self.inside.places.items c.in-Some.place (Some c.args.text))
    ∙ slots-written arch name (names_in es) texts c.self.invariant c.in-Some.place at (arc_slice_items c.args.text) entry here named in
    (λ i. record { arch = arch; slots = left i })
    ∙ ap (λ (store : Store). record { arch = store.arch; slots = changed_slots (is_named name) (λ _. entry) store.slots }) c.self.view_is
