use Rattle.std.proofs.Common.{◌≡◌, ◌∙◌, ◌++◌, ◌∷◌, [], false, true, OnOk, ap, subst, sym, if◌then◌else◌}
use Rattle.rules.specs.Step.{is_named}
use Rattle.status.proofs.FoundLemmas.{found-has_name, none-has_name}
use Rattle.status.proofs.PlaceLemmas.{found-at}
use Rattle.status.proofs.TextLemmas.{texts_in}
use Rattle.status_text.specs.Slot.{Store}
use Rattle.status_text.specs.declared.slot.Slot.TheVariants.{Recorded}
use Rattle.status.specs.Places.{FindsAt, slots_read}
use Rattle.status.specs.Slots.{changed_slots, entry_named, has_name}
use Rattle.status.proofs.table.Table.put.Goals as goal
use Rattle.std.specs.Arc.{arc_slice_items}

pub push_recorded-requires-clause-new : goal.push_recorded-requires-clause-new
push_recorded-requires-clause-new c =
    let name = c.args.name.now in
    let places = slots_read c.self.inside.arch.items (texts_in (λ t. arc_slice_items t) c.self.inside.places.items) in
    let none = subst (FindsAt name places) (sym c.in-None.ensures) (found-at (λ key. key.items) name places c.self.inside.numbers.entries c.self.invariant.0.0) in
    ap (λ n. has_name n c.args.self.now.slots) c.in_ok-owned-in-None.ensures.items
    ∙ none-has_name name c.args.self.now.slots (ap (λ (store : Store). entry_named name store.slots) (sym c.self.view_is) ∙ none)

pub returns-in-Some-clause-ok : goal.returns-in-Some-clause-ok
returns-in-Some-clause-ok c entry read =
    let name = c.args.name.now in
    let slots = c.args.self.now.slots in
    let places = slots_read c.self.inside.arch.items (texts_in (λ t. arc_slice_items t) c.self.inside.places.items) in
    let at = subst (FindsAt name places) (sym c.in-Some.ensures) (found-at (λ key. key.items) name places c.self.inside.numbers.entries c.self.invariant.0.0) in
    let has : has_name name slots ≡ true =
    found-has_name name slots at.entry (ap (λ (store : Store). entry_named name store.slots) (sym c.self.view_is) ∙ at.entry_is) in
    c.write.ensures entry read ∙ (λ i. record {
      arch = c.args.self.now.arch;
      slots = if sym has i then changed_slots (is_named name) (λ _. entry) slots else slots ++ Recorded entry ∷ [];
    })

pub returns-in_ok-owned-in-None-clause-ok : goal.returns-in_ok-owned-in-None-clause-ok
returns-in_ok-owned-in-None-clause-ok c entry read =
    let name = c.args.name.now in
    let slots = c.args.self.now.slots in
    let places = slots_read c.self.inside.arch.items (texts_in (λ t. arc_slice_items t) c.self.inside.places.items) in
    let none = subst (FindsAt name places) (sym c.in-None.ensures) (found-at (λ key. key.items) name places c.self.inside.numbers.entries c.self.invariant.0.0) in
    let fresh : has_name name slots ≡ false = none-has_name name slots (ap (λ (store : Store). entry_named name store.slots) (sym c.self.view_is) ∙ none) in
    subst (λ b. OnOk c.push_recorded.result (c.push_recorded.new.self ≡ record {
      arch = c.args.self.now.arch;
      slots = if b then changed_slots (is_named name) (λ _. entry) slots else slots ++ Recorded entry ∷ [];
    })) (sym fresh) (c.push_recorded.ensures.ok entry read)
